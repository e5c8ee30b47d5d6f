-- `presence::window::Window::prevalent` meets its contract. Assumes nothing.
use Rattle.std.proofs.Common.{◌≤◌, ◌<◌, ◌*◌, rules, arith, get_or}
use borrow.Author.Tests.{lt-ltb, le-ltb}
use Rattle.presence.specs.Day.{zone_day, on_day}
use Rattle.presence.specs.Log.{days_of}
use Rattle.presence.specs.Window.{sum_days}
use Rattle.presence.specs.Held.{marked_day}
use Rattle.presence.proofs.Totals.{zone_day_marked, on_day_marked, zone_at_most, on_at_most}
use Rattle.presence.proofs.window.Window.prevalent.Goals as goal

pub sum_last-zone-requires-clause-small : goal.sum_last-zone-requires-clause-small
sum_last-zone-requires-clause-small c = λ k r l p. zone_at_most (marked_day (get_or c.marks-xs.result k 0)) r (search rules)

pub sum_last-on-requires-clause-small : goal.sum_last-on-requires-clause-small
sum_last-on-requires-clause-small c = λ k r l p. on_at_most (marked_day (get_or c.marks-xs.result k 0)) r (search rules)

pub returns-then-zone-on : goal.returns-then-zone-on
returns-then-zone-on c =
    let w = c.args.self.days in
    let xs = c.args.self.log.now in
    let ds = days_of xs in
    let m = c.marks-xs in
    let zone = c.sum_last-zone.ensures.sum zone_day ds (λ k r l p. zone_day_marked w k r xs m.result c.args.self.few m.ensures l (search rules)) in
    let on = c.sum_last-on.ensures.sum on_day ds (λ k r l p. on_day_marked w k r xs m.result c.args.self.few m.ensures l (search rules)) in
    let few : 2 * sum_days zone_day w ds ≤ sum_days on_day w ds = omega (arith, zone, on, c.if-zone-on.true) in
    rw (le-ltb _ _ few) (search rules)

pub returns : goal.returns
returns c =
    let w = c.args.self.days in
    let xs = c.args.self.log.now in
    let ds = days_of xs in
    let m = c.marks-xs in
    let zone = c.sum_last-zone.ensures.sum zone_day ds (λ k r l p. zone_day_marked w k r xs m.result c.args.self.few m.ensures l (search rules)) in
    let on = c.sum_last-on.ensures.sum on_day ds (λ k r l p. on_day_marked w k r xs m.result c.args.self.few m.ensures l (search rules)) in
    let most : sum_days on_day w ds < 2 * sum_days zone_day w ds = omega (arith, zone, on, c.if-zone-on.false) in
    simp (c.zone_exceeds.ensures, c.zone_exceeds-2.ensures, c.zone_exceeds-3.ensures, lt-ltb _ _ most)
