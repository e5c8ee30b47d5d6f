-- The calendar rule of the table of month starts, shown once: a test computed over its 132 entries.
-- Assumes nothing.
use mathlib.Core.Path.{subst}
use mathlib.Core.Bool.{Bool}
use Prim.Native.Nat.{ℕ, ◌*◌, ◌<◌, ◌≤◌}
use lib.Dec.{eqb, leb, eqb→eq, leb→le}
use lib.ListN.{get_or}
use Rattle.calendar.specs.Calendar.{leap_day, month_lengths, month_length, first_day}
use Rattle.calendar.specs.Table.{month_starts, TableKeepsCalendar}
use Rattle.calendar.proofs.Table.{entry}

-- the two tests of an entry x at place k
by_rule : ℕ → ℕ → Bool
by_rule k x = eqb x (first_day k)

by_31 : ℕ → ℕ → Bool
by_31 k x = leb x (31 * k)

-- each entry is the first day of its month
pub month_rule : TableKeepsCalendar
unfolding month_starts by_rule first_day month_length month_lengths leap_day
month_rule k h = eqb→eq (get_or month_starts k 0) (first_day k) (entry by_rule month_starts tt k h)

-- no month begins later than months of 31 days would
pub month_early : (k : ℕ) → k < 132 → first_day k ≤ 31 * k
unfolding month_starts by_31
month_early k h = subst (λ (d : ℕ). d ≤ 31 * k) (month_rule k h) (leb→le (get_or month_starts k 0) (31 * k) (entry by_31 month_starts tt k h))
