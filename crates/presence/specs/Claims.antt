-- What holds of the log in numbers (day-1, account-4), and of windows with and without off days (off-2, off-4,
-- service-4). Choices (docs/DECISIONS.md, "Services"): no day but off days; units of an off day. Assumes nothing.
use Rattle.std.specs.Prelude.{ℕ, ◌≤◌, ◌<◌, min, ◌≡◌, Bool, true, false, ◌&&◌, List, leb, ltb, get_or, length, replicate}
use Rattle.presence.specs.declared.Day.{Day}
use Rattle.presence.specs.declared.DayKind.TheVariants.{OffDay}
use Rattle.presence.specs.declared.Service.{Service}
use Rattle.presence.specs.Day.{empty_day, counts_as, zone_day, joined}
use Rattle.presence.specs.Log.{days_of, logged_with, marks_proper, numbers_all}
use Rattle.presence.specs.Window.{zone_units, other_units, sum_days, prevalent, prevalent_long, prevalent_short}

-- day-1, account-3: joining a day to the numbers joins it to their days; 0s stand for empty days
pub record LogKeepsDays : Type 0 where
  pub joins : (d : Day) (xs : List ℕ) → days_of (logged_with d xs) ≡ joined d (days_of xs)
  pub empty : days_of (replicate 1599 0) ≡ replicate 123 empty_day

-- account-4: with proper marks the numbers are those of the days, so no two such logs have the same days
abbrev pub NumbersAreOfDays : Type 0
NumbersAreOfDays = (xs : List ℕ) → length xs ≡ 1599 → marks_proper 123 xs ≡ true → numbers_all (days_of xs) ≡ xs

-- aid: none of the w newest days is off
abbrev pub NoneOff : ℕ → List Day → Type 0
NoneOff w ds = (i : ℕ) → i < w → counts_as (get_or ds i empty_day) ≡ OffDay → ⊥

-- aid: all of the w newest days are off
abbrev pub AllOff : ℕ → List Day → Type 0
AllOff w ds = (i : ℕ) → i < w → counts_as (get_or ds i empty_day) ≡ OffDay

-- service-4, off-4: the test without off days: so many zone days, and more zone units than others
abbrev pub at_least : ℕ → Service → ℕ → List Day → Bool
at_least least s w ds = leb least (sum_days zone_day w ds)
    && ltb (sum_days (other_units s) w ds) (sum_days (zone_units s) w ds)

-- off-4, service-4: in a full window without off days 62 of 123, and 8 of 15, decide
pub record FullWindows : Type 0 where
  pub of_123 : (s : Service) (n : ℕ) (ds : List Day) → 123 ≤ n → NoneOff 123 ds
      → prevalent_long s n ds ≡ at_least 62 s 123 ds
  pub of_15 : (s : Service) (n : ℕ) (ds : List Day) → 15 ≤ n → NoneOff 15 ds
      → prevalent_short s n ds ≡ at_least 8 s 15 ds

-- off-2: in a window of off days alone no service is prevalent
abbrev pub OffDaysOnly : Type 0
OffDaysOnly = (s : Service) (w n : ℕ) (ds : List Day) → AllOff (min w n) ds → prevalent s w n ds ≡ false
