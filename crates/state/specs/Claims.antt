-- What holds of uses, one after the other, and of what a record is charged for (use-11 to use-13, half-1, half-2,
-- use-10). Choices (docs/DECISIONS.md, "Account"): a record is rounded up; 31 to 59 seconds; use elsewhere. Assumes
-- nothing.
use Rattle.std.specs.Prelude.{ℕ, ◌≤◌, ◌≡◌, true, Option, Some}
use Rattle.tariff.specs.declared.Units.{Units}
use Rattle.tariff.specs.declared.Kind.{Kind}
use Rattle.tariff.specs.declared.Kind.TheVariants.{Outgoing}
use Rattle.tariff.specs.declared.Place.TheVariants.{Zone, Elsewhere}
use Rattle.tariff.specs.Units.{zero_units, ◌⊕◌, only, AtMost}
use Rattle.state.specs.declared.State.{State}
use Rattle.state.specs.Sound.{charges_sound}
use Rattle.state.specs.Use.{charged_units, newly_surcharged, cost, spent}
use Rattle.tariff.specs.declared.Place.{Place}

-- use-11, use-12, mistake-1: u units charged as c, then v charged as d, come to one use of the sums, in every field
abbrev pub UsesAddUp : Type 0
UsesAddUp = (a : State) (u c v d : Units) → charges_sound a ≡ true → spent (spent a u c) v d ≡ spent a (u ⊕ v) (c ⊕ d)

-- use-13: a use of no fewer units of each kind costs no less
abbrev pub CostGrows : Type 0
CostGrows = (a : State) (u v : Units) → AtMost u v → cost a u ≤ cost a v

-- half-1, half-2: short zone calls are charged as 30 seconds, all other records as they are
pub record FirstHalfMinute : Type 0 where
  pub short_calls : (n : ℕ) → n ≤ 30 → charged_units (Some Zone) Outgoing n ≡ only Outgoing 30
  pub long_calls : (n : ℕ) → 30 ≤ n → charged_units (Some Zone) Outgoing n ≡ only Outgoing n
  pub other_kinds : (w : Option Place) (k : Kind) (n : ℕ) → (k ≡ Outgoing → ⊥) → charged_units w k n ≡ only k n
  pub other_places : (w : Option Place) (k : Kind) (n : ℕ) → (w ≡ Some Zone → ⊥) → charged_units w k n ≡ only k n

-- use-2, use-10, law: elsewhere nothing is to pay, and outside the zone nothing bears a surcharge
pub record FreeUse : Type 0 where
  pub elsewhere : (a : State) (c : Units) → charges_sound a ≡ true → a.place ≡ Some Elsewhere → cost a c ≡ 0
  pub outside : (a : State) (c : Units) → (a.place ≡ Some Zone → ⊥) → newly_surcharged a c ≡ zero_units
