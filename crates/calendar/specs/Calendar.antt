-- The calendar by its rule, month-1 to month-3: months are counted from January 2022, month 0, to December 2032, month
-- 131. Choice (docs/DECISIONS.md, "Account"): no month is known beyond the table's 132 (months). Assumes nothing.
use Rattle.std.specs.Prelude.{ℕ, zero, suc, ◌+◌, ◌/◌, ◌%◌, Bool, false, not, cond, ◌&&◌, ◌||◌, List, [], ◌∷◌, leb, eqb, get_or}

-- aid to `leap_day`: is the year y a multiple of n?
abbrev pub multiple : ℕ → ℕ → Bool
multiple n y = eqb (y % n) 0

-- month-3: 1 in a leap year, else 0
unfoldable pub leap_day : ℕ → ℕ
leap_day y = cond (multiple 400 y || multiple 4 y && not (multiple 100 y)) 1 0

-- month-3: the lengths of a year's months
unfoldable pub month_lengths : ℕ → List ℕ
month_lengths y = 31 ∷ (28 + leap_day y) ∷ 31 ∷ 30 ∷ 31 ∷ 30 ∷ 31 ∷ 31 ∷ 30 ∷ 31 ∷ 30 ∷ 31 ∷ []

-- month-3, month-1: the days of month m; month 0 is in 2022
unfoldable pub month_length : ℕ → ℕ
month_length m = get_or (month_lengths (2022 + m / 12)) (m % 12) 0

-- month-1, month-3: the day on which month m begins. Law: the table holds these (`TableKeepsCalendar`)
unfoldable pub first_day : ℕ → ℕ
first_day zero = 0
first_day (suc m) = first_day m + month_length m

-- aid: does some number below n pass the test?
unfoldable pub any_below : ℕ → (ℕ → Bool) → Bool
any_below zero f = false
any_below (suc n) f = any_below n f || f n

-- aid: how many numbers below n pass the test?
unfoldable pub count_below : ℕ → (ℕ → Bool) → ℕ
count_below zero f = 0
count_below (suc n) f = count_below n f + cond (f n) 1 0

-- month-2: the day begins one of the 132 months
unfoldable pub starts_month : ℕ → Bool
starts_month d = any_below 132 (λ m. eqb (first_day m) d)

-- month-2: a day's month, by how many months have begun
unfoldable pub month_of : ℕ → ℕ
month_of d = count_below 132 (λ m. leb (first_day m) d)
