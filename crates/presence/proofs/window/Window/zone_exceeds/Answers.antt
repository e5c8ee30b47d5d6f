-- `presence::window::Window::zone_exceeds` meets its contract. Assumes nothing.
use Rattle.std.proofs.Common.{◌≡◌, rules, arith, get_or}
use Rattle.presence.specs.Day.{empty_day}
use Rattle.presence.specs.Log.{days_of}
use Rattle.presence.specs.Window.{zone_units, other_units}
use Rattle.presence.proofs.Totals.{day_low, zone_small, other_small}
use Rattle.presence.proofs.window.Window.zone_exceeds.Goals as goal

pub units_sum-zone-requires-clause-callable : goal.units_sum-zone-requires-clause-callable
units_sum-zone-requires-clause-callable c = λ i l. search (rules, day_low c.args.self.days i (days_of c.args.self.log.now) l c.args.self.low)

pub units_sum-zone-requires-clause-small : goal.units_sum-zone-requires-clause-small
units_sum-zone-requires-clause-small c = λ i r l p.
    let e : r ≡ zone_units c.args.v (get_or (days_of c.args.self.log.now) i empty_day) = search rules in
    omega (arith, e, zone_small c.args.v c.args.self.days i (days_of c.args.self.log.now) l c.args.self.low)

pub units_sum-other-requires-clause-callable : goal.units_sum-other-requires-clause-callable
units_sum-other-requires-clause-callable c = λ i l. search (rules, day_low c.args.self.days i (days_of c.args.self.log.now) l c.args.self.low)

pub units_sum-other-requires-clause-small : goal.units_sum-other-requires-clause-small
units_sum-other-requires-clause-small c = λ i r l p.
    let e : r ≡ other_units c.args.v (get_or (days_of c.args.self.log.now) i empty_day) = search rules in
    omega (arith, e, other_small c.args.v c.args.self.days i (days_of c.args.self.log.now) l c.args.self.low)
