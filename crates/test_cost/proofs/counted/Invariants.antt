-- No more calls are accepted than were made.
use Rattle.std.proofs.Common.{◌≤◌}
use Rattle.test_cost.proofs.counted.Given as goal

abbrev pub invariant-loop : goal.invariant-loop
invariant-loop g l = l.accepted ≤ l.counter
