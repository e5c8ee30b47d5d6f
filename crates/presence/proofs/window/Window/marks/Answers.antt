-- `presence::window::Window::marks` meets its contract. Assumes nothing.
use Rattle.std.proofs.Common.{◌∙◌, arith, length-set}
use Rattle.presence.proofs.Totals.{marks_more}
use Rattle.presence.proofs.window.Window.marks.Goals as goal

pub loop-i-preserved : goal.loop-i-preserved
loop-i-preserved c = let l = c.loop-i in
    (length-set l.marks l.i _ ∙ l.invariant.0, marks_more l.i c.args.self.log.now l.marks (omega arith) l.invariant.1)
