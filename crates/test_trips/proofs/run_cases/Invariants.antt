-- Each turn leaves less of the input.
use Rattle.std.proofs.Common.{length}
use Rattle.test_trips.proofs.run_cases.Given as goal

abbrev pub decreases-loop-a : goal.decreases-loop-a
decreases-loop-a g l = length l.rest
