-- The record of a day (its marks, and its units of each kind at each place), what the day counts as, and the log of
-- days (day-1 to day-3, unit-3, use-1). Choices (docs/DECISIONS.md, "Account"): a top-up and marks; place over a day
-- change; units on a day of another kind. Assumes nothing.
use Rattle.std.specs.Prelude.{ℕ, Bool, true, false, cond, ◌||◌, Option, Some, None, List, ◌∷◌, take}
use Rattle.tariff.specs.declared.Units.{Units}
use Rattle.tariff.specs.declared.Place.{Place}
use Rattle.tariff.specs.declared.Place.TheVariants.{Home, Zone, Elsewhere}
use Rattle.tariff.specs.Units.{zero_units, ◌⊕◌, Adds}
use Rattle.presence.specs.declared.Day.{Day}
use Rattle.presence.specs.declared.DayKind.{DayKind}
use Rattle.presence.specs.declared.DayKind.TheVariants.{HomeDay, ZoneDay, OffDay}

-- unit-3: the place is the zone
abbrev pub in_zone : Option Place → Bool
in_zone None = false
in_zone (Some Home) = false
in_zone (Some Zone) = true
in_zone (Some Elsewhere) = false

-- unit-3, refusal-3: there is a place
abbrev pub is_placed : Option Place → Bool
is_placed None = false
is_placed (Some p) = true

-- day-3, account-3: a day without marks and units
abbrev pub empty_day : Day
empty_day = record {
  home = false;
  zone = false;
  elsewhere = false;
  athome = zero_units;
  inzone = zero_units;
  outside = zero_units;
}

-- register-1, use-1: the day marked with the place
unfoldable pub mark_day : Option Place → Day → Day
mark_day None d = d
mark_day (Some Home) d = record {
  home = true;
  zone = d.zone;
  elsewhere = d.elsewhere;
  athome = d.athome;
  inzone = d.inzone;
  outside = d.outside;
}
mark_day (Some Zone) d = record {
  home = d.home;
  zone = true;
  elsewhere = d.elsewhere;
  athome = d.athome;
  inzone = d.inzone;
  outside = d.outside;
}
mark_day (Some Elsewhere) d = record {
  home = d.home;
  zone = d.zone;
  elsewhere = true;
  athome = d.athome;
  inzone = d.inzone;
  outside = d.outside;
}

-- use-1: the day with units added at the place
unfoldable pub add_day : Option Place → Units → Day → Day
add_day None u d = d
add_day (Some Home) u d = record {
  home = d.home;
  zone = d.zone;
  elsewhere = d.elsewhere;
  athome = d.athome ⊕ u;
  inzone = d.inzone;
  outside = d.outside;
}
add_day (Some Zone) u d = record {
  home = d.home;
  zone = d.zone;
  elsewhere = d.elsewhere;
  athome = d.athome;
  inzone = d.inzone ⊕ u;
  outside = d.outside;
}
add_day (Some Elsewhere) u d = record {
  home = d.home;
  zone = d.zone;
  elsewhere = d.elsewhere;
  athome = d.athome;
  inzone = d.inzone;
  outside = d.outside ⊕ u;
}

-- aid: what keeps these sums within the machine's numbers
pub record DayAdds (d : Day) (u : Units) : Type 0 where
  pub home_adds : Adds d.athome u
  pub zone_adds : Adds d.inzone u
  pub outside_adds : Adds d.outside u

-- day-2: home day, zone day or off
unfoldable pub counts_as : Day → DayKind
counts_as d = cond (d.home || d.elsewhere) HomeDay (cond d.zone ZoneDay OffDay)

-- aid to `zone_day`: by what the day counts as
abbrev pub one_if_zone : DayKind → ℕ
one_if_zone HomeDay = 0
one_if_zone ZoneDay = 1
one_if_zone OffDay = 0

-- day-2: 1 for a zone day, else 0
unfoldable pub zone_day : Day → ℕ
zone_day d = one_if_zone (counts_as d)

-- aid to `on_day`: by what the day counts as
abbrev pub one_if_on : DayKind → ℕ
one_if_on HomeDay = 1
one_if_on ZoneDay = 1
one_if_on OffDay = 0

-- off-1: 1 for a day that is not off, else 0
unfoldable pub on_day : Day → ℕ
on_day d = one_if_on (counts_as d)

-- sound-7: a day's units of each kind, wherever used
abbrev pub day_units : Day → Units
day_units d = d.athome ⊕ d.inzone ⊕ d.outside

-- day-1: the day in front, of 123 at most
unfoldable pub joined : Day → List Day → List Day
joined d ds = take 123 (d ∷ ds)
