-- `presence::window::Window::marks` has read the marks of the first i days.
use Rattle.std.proofs.Common.{◌≡◌, length}
use Rattle.presence.specs.Held.{SameMarks}
use Rattle.presence.proofs.window.Window.marks.Given as goal

abbrev pub invariant-loop-i : goal.invariant-loop-i
invariant-loop-i l = (length l.marks ≡ 123) × SameMarks l.i l.self.log.now l.marks
