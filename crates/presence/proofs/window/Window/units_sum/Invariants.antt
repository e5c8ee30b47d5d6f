-- `presence::window::Window::units_sum` has written what each of the first i days adds.
use Rattle.std.proofs.Common.{◌≡◌, ◌<◌, ℕ, length, get_or}
use Rattle.presence.specs.Day.{empty_day}
use Rattle.presence.specs.Log.{days_of}
use Rattle.presence.proofs.window.Window.units_sum.Given as goal

abbrev pub invariant-loop-i : goal.invariant-loop-i
invariant-loop-i g l = record {
  places : length l.xs ≡ 123;
  adds : (k : ℕ) → k < l.i → goal.F-post g l.adds (get_or (days_of l.self.log.now) k empty_day) (get_or l.xs k 0);
}
