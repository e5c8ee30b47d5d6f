-- Two pairs of lists. The first shows why the match is about the accounts before all cuts and at the end together
-- (list-9), the second why it asks for charged seconds beside units (half-8). No choice matters here. Assumes nothing.
use Rattle.std.specs.Prelude.{ℕ, ◌≡◌, List, [], ◌∷◌}
use Rattle.tariff.specs.declared.Units.{Units}
use Rattle.tariff.specs.declared.Kind.TheVariants.{Data, Outgoing}
use Rattle.tariff.specs.declared.Form.TheVariants.{Unlimited}
use Rattle.tariff.specs.declared.Place.TheVariants.{Home, Zone}
use Rattle.tariff.specs.declared.Plan.{Plan}
use Rattle.account.specs.declared.Account.{Account}
use Rattle.account.specs.declared.Call.{Call}
use Rattle.account.specs.declared.Call.TheVariants.{Register, Use}
use Rattle.account.specs.Whole.{opened}
use Rattle.machine.specs.Machine.{cuts, stretches}
use Rattle.ledger.specs.Lists.{run, Taken, account_calls}
use Rattle.ledger.specs.Demand3.{OpensAs}

-- aid: a bundle without volume limit, at no price
abbrev pub free_plan : Plan
free_plan = record { form = Unlimited; start = 181; pergb = 0; perminute = 0; persms = 0; fee = 0; volume = 0 }

-- aid: a kB between two registrations at home
abbrev pub used_between : List Call
used_between = Register Home ∷ Use Data 1 ∷ Register Home ∷ []

-- aid: a kB after both
abbrev pub used_after : List Call
used_after = Register Home ∷ Register Home ∷ Use Data 1 ∷ []

-- list-9: same cuts and equal accounts at the end, yet other stretches
pub record EndsAlike (a : Account) (xs ys : List Call) : Type 0 where
  pub same_cuts : cuts account_calls a xs ≡ cuts account_calls a ys
  pub same_ends : run a xs ≡ run a ys
  pub other_stretches : stretches account_calls a xs ≡ stretches account_calls a ys → ⊥

-- list-9: so the end alone, or some of the cuts, do not tell whether stretches agree
pub record EndIsNotEnough : Type 0 where
  pub opens : OpensAs free_plan (opened free_plan)
  pub alike : EndsAlike (opened free_plan) used_between used_after

-- aid: two calls in the zone, one of them under half a minute
abbrev pub short_and_long : List Call
short_and_long = Register Zone ∷ Use Outgoing 20 ∷ Use Outgoing 40 ∷ []

-- aid: two calls of half a minute, as many seconds
abbrev pub two_halves : List Call
two_halves = Register Zone ∷ Use Outgoing 30 ∷ Use Outgoing 30 ∷ []

-- aid: the units of each stretch, without the charged seconds
unfoldable pub units_alone : List Taken → List Units
units_alone [] = []
units_alone (t ∷ ts) = t.units ∷ units_alone ts

-- half-8: cuts and units agree, yet the accounts hold x and y charged seconds
pub record UnitsAlike (a : Account) (xs ys : List Call) (x y : ℕ) : Type 0 where
  pub same_cuts : cuts account_calls a xs ≡ cuts account_calls a ys
  pub same_units : units_alone (stretches account_calls a xs) ≡ units_alone (stretches account_calls a ys)
  pub first_charged : (run a xs).state.meters.chargedseconds ≡ x
  pub second_charged : (run a ys).state.meters.chargedseconds ≡ y

-- half-8: 70 charged seconds against 60
abbrev pub UnitsAreNotEnough : Type 0
UnitsAreNotEnough = UnitsAlike (opened free_plan) short_and_long two_halves 70 60
