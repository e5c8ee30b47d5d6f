-- The log as it is kept, in numbers, and what a sound account's log holds (day-1, sound-7, sound-10). Choices
-- (docs/DECISIONS.md, "Soundness" and "Representation"): the log's length; marks in the log; units of today and the
-- log; the log as 1,599 numbers. Assumes nothing.
use Rattle.std.specs.Prelude.{ℕ, zero, suc, ◌+◌, ◌*◌, ◌/◌, ◌%◌, Bool, true, not, cond, ◌&&◌, List, [], ◌∷◌, ◌++◌, eqb, leb, get_or, drop, take}
use Rattle.tariff.specs.declared.Units.{Units}
use Rattle.tariff.specs.Tests.{all}
use Rattle.tariff.specs.Units.{each, zero_units, ◌⊕◌, fits, no_units}
use Rattle.presence.specs.declared.Day.{Day}
use Rattle.presence.specs.Day.{empty_day, day_units}

-- aid: marks as one number, 1 home, 2 zone, 4 elsewhere, added up
abbrev pub marks_number : Day → ℕ
marks_number d = cond d.home 1 0 + 2 * cond d.zone 1 0 + 4 * cond d.elsewhere 1 0

-- account-2: a logged day as 13 numbers: marks, then units of each kind at home, in the zone, elsewhere
unfoldable pub numbers_of : Day → List ℕ
numbers_of d =
    marks_number d
    ∷ d.athome.kb ∷ d.athome.outgoing ∷ d.athome.incoming ∷ d.athome.sms
    ∷ d.inzone.kb ∷ d.inzone.outgoing ∷ d.inzone.incoming ∷ d.inzone.sms
    ∷ d.outside.kb ∷ d.outside.outgoing ∷ d.outside.incoming ∷ d.outside.sms
    ∷ []

-- account-2: the day of a list's first 13 numbers
unfoldable pub day_from : List ℕ → Day
day_from xs = record {
  home = eqb (get_or xs 0 0 % 2) 1;
  zone = eqb (get_or xs 0 0 / 2 % 2) 1;
  elsewhere = eqb (get_or xs 0 0 / 4 % 2) 1;
  athome = each (get_or xs 1 0) (get_or xs 2 0) (get_or xs 3 0) (get_or xs 4 0);
  inzone = each (get_or xs 5 0) (get_or xs 6 0) (get_or xs 7 0) (get_or xs 8 0);
  outside = each (get_or xs 9 0) (get_or xs 10 0) (get_or xs 11 0) (get_or xs 12 0);
}

-- aid: the first n days of a list of numbers
unfoldable pub days_first : ℕ → List ℕ → List Day
days_first zero xs = []
days_first (suc n) xs = day_from xs ∷ days_first n (drop 13 xs)

-- day-1: a log's 123 places as days, newest first; the logged ones come first
unfoldable pub days_of : List ℕ → List Day
days_of xs = days_first 123 xs

-- day-1: today in front of the log's numbers. Laws: it joins the day to the days, and 0s stand for empty days
-- (`LogKeepsDays`)
unfoldable pub logged_with : Day → List ℕ → List ℕ
logged_with d xs = take 1599 (numbers_of d ++ xs)

-- sound-7: the units of the first n days of the log, wherever used
unfoldable pub units_over : ℕ → List Day → Units
units_over zero ds = zero_units
units_over (suc n) ds = day_units (get_or ds n empty_day) ⊕ units_over n ds

-- sound-10: a place that holds no day
abbrev pub blank : Day → Bool
blank d = not d.home && not d.zone && not d.elsewhere
    && no_units d.athome && no_units d.inzone && no_units d.outside

-- sound-10: no place of these holds a day
unfoldable pub all_blank : List Day → Bool
all_blank [] = true
all_blank (d ∷ ds) = blank d && all_blank ds

-- refusal-5, sound-2: the limit of lifetime units, for each kind
abbrev pub lifetime_most : Units
lifetime_most = each 1000000000000 1000000000000 1000000000000 1000000000000

-- account-4, sound-10: marks of the first n days are 0 to 7. Law: the numbers are then those of the days
-- (`NumbersAreOfDays`)
unfoldable pub marks_proper : ℕ → List ℕ → Bool
marks_proper zero xs = true
marks_proper (suc n) xs = leb (get_or xs 0 0) 7 && marks_proper n (drop 13 xs)

-- sound-7, sound-10: today's and the log's units are within lifetime; nothing past the n logged days; proper marks
unfoldable pub log_within : List ℕ → Day → ℕ → Units → Bool
log_within xs today n lifetime = all
    (fits (day_units today ⊕ units_over n (days_of xs)) lifetime
    ∷ all_blank (drop n (days_of xs))
    ∷ marks_proper 123 xs
    ∷ [])

-- aid: the numbers of days, one day after the other
unfoldable pub numbers_all : List Day → List ℕ
numbers_all [] = []
numbers_all (d ∷ ds) = numbers_of d ++ numbers_all ds
