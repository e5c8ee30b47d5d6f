-- The search for a day among the month starts: what it has passed, and what it has found where it ends.
-- Assumes nothing.
use mathlib.Core.Path.{◌≡◌, refl, sym, ap}
use mathlib.Core.Bool.{Bool, true, false}
use mathlib.Core.Logic.{⊎_elim}
use Prim.Native.Nat.{ℕ, zero, suc, ◌+◌, ◌*◌, ◌<◌, ◌≤◌}
use native.Mathlib.Nat.{eq-or-lt_of_le, le_of_suc-le-suc}
use native.Mathlib.Omega.{arith}
use borrow.Author.Count.{below_more}
use borrow.Author.Tests.{leb-true, leb-false, eqb-false, ne_eqb}
use lib.Dec.{leb, eqb}
use Rattle.calendar.specs.Calendar.{first_day, any_below, starts_month}
use Rattle.calendar.proofs.Months.{month_early}
use Rattle.calendar.proofs.Laws.{any_at, any_none}

-- each of the first i months begins before day d
abbrev pub Passed : ℕ → ℕ → Type 0
Passed d i = (m : ℕ) → m < i → m < 132 → first_day m < d

-- a later month does not begin earlier
pub in_order : (m n : ℕ) → m ≤ n → first_day m ≤ first_day n
unfolding first_day
in_order m zero h =
    let q : m ≡ 0 = omega arith in
    omega (arith, ap first_day q)
in_order m (suc n) h =
    ⊎_elim (λ q. omega (arith, ap first_day q)) (λ l. omega (arith, in_order m n (le_of_suc-le-suc l))) (eq-or-lt_of_le h)

-- where i months of 31 days end by the day, the search may start at month i
pub passed_first : (d i : ℕ) → 31 * i ≤ d → Passed d i
passed_first d i b m l h = omega (arith, month_early m h)

-- one month more
pub passed_next : (d i : ℕ) → Passed d i → first_day i < d → Passed d (i + 1)
passed_next d i p l = below_more (λ (m : ℕ). m < 132 → first_day m < d) i p (λ h. l)

-- at a month that does not begin before the day: it begins on that day, or none does
pub decided : (d i : ℕ) → i < 132 → Passed d i → d ≤ first_day i → eqb (first_day i) d ≡ starts_month d
unfolding starts_month
decided d i h p l = go (eqb (first_day i) d) refl
  where
    other : (first_day i ≡ d → ⊥) → (m : ℕ) → m < 132 → first_day m ≡ d → (b : Bool) → leb i m ≡ b → ⊥
    other q m k e true o = omega (arith, q, in_order i m (leb-true i m o))
    other q m k e false o = omega (arith, p m (leb-false i m o) k)

    go : (b : Bool) → eqb (first_day i) d ≡ b → b ≡ any_below 132 (λ m. eqb (first_day m) d)
    go true e = sym (any_at 132 (λ m. eqb (first_day m) d) i h e)
    go false e =
        sym
        (any_none 132 (λ m. eqb (first_day m) d)
        (λ m k. ne_eqb (first_day m) d (λ q. other (eqb-false (first_day i) d e) m k q (leb i m) refl)))

-- past the last month: none begins on the day
pub nowhere : (d i : ℕ) → 132 ≤ i → Passed d i → false ≡ starts_month d
unfolding starts_month
nowhere d i h p = sym (any_none 132 (λ m. eqb (first_day m) d) (λ m l. ne_eqb (first_day m) d (λ e. omega (arith, p m (omega arith) l))))
