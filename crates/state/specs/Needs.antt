-- Aids to `state`: what inner functions ask, so that their sums stay within the machine's numbers. What recurs here of
-- use-2 (`bears`) is tied to it by the contract of `billable_of`. Assumes nothing.
use Rattle.std.specs.Prelude.{◌+◌, ◌≤◌, ◌<◌, min, ◌≡◌, Bool, true, false, List, Option, Some, None}
use Rattle.tariff.specs.declared.Units.{Units}
use Rattle.tariff.specs.declared.Place.TheVariants.{Home, Zone, Elsewhere}
use Rattle.tariff.specs.Units.{each, ◌⊕◌, AtMost}
use Rattle.tariff.specs.declared.Plan.{Plan}
use Rattle.presence.specs.declared.Day.{Day}
use Rattle.presence.specs.Day.{day_units}
use Rattle.presence.specs.Log.{units_over, lifetime_most}
use Rattle.state.specs.declared.State.{State}
use Rattle.state.specs.declared.Bill.{Bill}
use Rattle.tariff.specs.Charges.{counted_kb}
use Rattle.state.specs.Use.{billable, roaming, billed_after, newly_surcharged, basis_after}
use Rattle.state.specs.Use.{home_after, extra_after, cost}
use Rattle.state.specs.Sound.{chargeable, counters_sound, charges_sound}
use Rattle.tariff.specs.declared.Place.{Place}

-- aid: a place where the home price bears
abbrev pub bears : Option Place → Bool
bears None = false
bears (Some Home) = true
bears (Some Zone) = true
bears (Some Elsewhere) = false

-- aid: what a use charged as c makes of the sums
unfoldable pub bill_of : State → Units → Bill
bill_of a c = record {
  billed = billed_after a c;
  fresh = newly_surcharged a c;
  basis = basis_after a c;
  home = home_after a c;
  extra = extra_after a c;
  counted = counted_kb a.plan.form (billable a.place c).kb;
  zone = (roaming a.place c).kb;
}

-- aid: sound counters, and charged units that lifetime units and charged seconds can take, no more than a use may have
pub record Ready (a : State) (c : Units) : Type 0 where
  pub counters : counters_sound a ≡ true
  pub few : AtMost c (each 1000000000 1000000000 1000000000 1000000000)
  pub room : AtMost (chargeable a ⊕ c) lifetime_most

-- aid: what soundness tells of all but the log
pub record Steady (a : State) : Type 0 where
  pub counters : counters_sound a ≡ true
  pub charges : charges_sound a ≡ true
  pub today : AtMost (day_units a.today) a.meters.lifetime

-- aid: a use charged as c that is not refused, with its bill
pub record Spends (a : State) (c : Units) (b : Bill) : Type 0 where
  pub steady : Steady a
  pub ready : Ready a c
  pub bill_is : b ≡ bill_of a c
  pub affordable : cost a c ≤ a.money.credit

-- aid: a day change that is not refused, where the log has today in it
pub record Turns (a : State) (ds : List Day) : Type 0 where
  pub counters : counters_sound a ≡ true
  pub before_end : a.day < 3833
  pub within : AtMost (units_over (min 123 (a.logged + 1)) ds) lifetime_most

-- aid: a plan whose fee and volume an allowance can be worked out from
pub record Payable (p : Plan) : Type 0 where
  pub money : p.fee ≤ 10000000
  pub kilobytes : p.volume ≤ 1073741824
