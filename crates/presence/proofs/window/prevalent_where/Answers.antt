-- `presence::window::prevalent_where` meets its contract. Assumes nothing.
use Rattle.std.proofs.Common.{arith, refl}
use Rattle.presence.specs.Log.{days_of}
use Rattle.presence.specs.Window.{prevalent}
use Rattle.presence.proofs.Totals.{low_fewer}
use Rattle.presence.proofs.window.prevalent_where.Goals as goal

pub invariant_of-prevalent-clause-low : goal.invariant_of-prevalent-clause-low
invariant_of-prevalent-clause-low c =
    low_fewer c.min-days.result c.args.n (days_of c.args.log.now) (omega (arith, c.min-days.ensures)) c.requires.1

pub returns : goal.returns
unfolding prevalent
returns c = rw (c.prevalent.ensures, c.min-days.ensures, c.if-not-asked.false) refl
