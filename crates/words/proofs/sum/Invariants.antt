-- The total is the wrapping sum of the words so far.
use Rattle.std.proofs.Common.{◌≡◌, ◌%◌, ◌^◌}
use Rattle.words.specs.Words.{sum_to}
use Rattle.words.proofs.sum.Given as goal

abbrev pub invariant-loop-i : goal.invariant-loop-i
invariant-loop-i l = l.total ≡ sum_to l.s l.i % 2 ^ 32
