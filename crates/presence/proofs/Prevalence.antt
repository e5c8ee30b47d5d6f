-- Windows without off days, and of off days alone. Assumes nothing.
use Prim.Native.Nat.{ℕ, zero, suc, ◌+◌, ◌*◌, ◌≤◌, min}
use mathlib.Core.Path.{◌≡◌, refl}
use mathlib.Core.List.{List}
use native.Mathlib.Omega.{arith}
use borrow.Author.Tests.{le-ltb}
use lib.ListN.{get_or}
use Rattle.tariff.proofs.Tests.{leb_ext}
use Rattle.presence.specs.declared.Day.{Day}
use Rattle.presence.specs.declared.DayKind.{DayKind}
use Rattle.presence.specs.declared.DayKind.TheVariants.{HomeDay, ZoneDay, OffDay}
use Rattle.presence.specs.declared.Service.{Service}
use Rattle.presence.specs.Day.{empty_day, counts_as, zone_day, on_day, one_if_on}
use Rattle.presence.specs.Window.{sum_days, prevalent, prevalent_long, prevalent_short}
use Rattle.presence.specs.Claims.{NoneOff, AllOff, at_least, FullWindows, OffDaysOnly}

on_is_one : (k : DayKind) → (k ≡ OffDay → ⊥) → one_if_on k ≡ 1
on_is_one HomeDay h = refl
on_is_one ZoneDay h = refl
on_is_one OffDay h = absurd (h refl)

-- without off days, all days of a window are counted
all_on : (w : ℕ) (ds : List Day) → NoneOff w ds → sum_days on_day w ds ≡ w
unfolding sum_days on_day
all_on zero ds h = refl
all_on (suc w) ds h = omega (arith, on_is_one (counts_as (get_or ds w empty_day)) (h w (omega arith)), all_on w ds (λ i l. h i (omega arith)))

-- of off days, none is a zone day
none_zone : (w : ℕ) (ds : List Day) → AllOff w ds → sum_days zone_day w ds ≡ 0
unfolding sum_days zone_day
none_zone zero ds h = refl
none_zone (suc w) ds h = rw (h w (omega arith), none_zone w ds (λ i l. h i (omega arith))) refl

-- a window of an odd number of days, none off: more than half of them are zone days
full_window : (s : Service) (w least n : ℕ) (ds : List Day) → w + 1 ≡ 2 * least → w ≤ n → NoneOff w ds → prevalent s w n ds ≡ at_least least s w ds
unfolding prevalent
full_window s w least n ds e l h =
    let m : min w n ≡ w = omega arith in
    let z = sum_days zone_day w ds in
    rw (m, all_on w ds h, leb_ext (suc w) (2 * z) least z (λ g. omega arith) (λ g. omega arith)) refl

pub full_windows : FullWindows
unfolding prevalent_long prevalent_short
full_windows = record {
  of_123 = λ s n ds l h. full_window s 123 62 n ds refl l h;
  of_15 = λ s n ds l h. full_window s 15 8 n ds refl l h;
}

pub off_days_only : OffDaysOnly
unfolding prevalent
off_days_only s w n ds h =
    rw (le-ltb (sum_days on_day (min w n) ds) (2 * sum_days zone_day (min w n) ds) (omega (arith, none_zone (min w n) ds h))) refl
