-- So it is with the calls so far.
use Rattle.std.proofs.Common.{◌≡◌}
use Rattle.tripfile.specs.Bodies.{first_calls, calls_right}
use Rattle.tripfile.proofs.reading.body_right.Given as goal

abbrev pub invariant-loop-i : goal.invariant-loop-i
invariant-loop-i l = l.right ≡ calls_right (first_calls l.body l.i)
