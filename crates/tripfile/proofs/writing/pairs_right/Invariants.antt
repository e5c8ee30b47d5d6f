-- So it is with the calls so far.
use Rattle.std.proofs.Common.{◌≡◌, length, take}
use Rattle.tripfile.specs.Bodies.{paired, calls_right}
use Rattle.tripfile.proofs.writing.pairs_right.Given as goal

abbrev pub invariant-loop-code : goal.invariant-loop-code
invariant-loop-code l = l.right ≡ calls_right (take (length l.yielded) (paired l.codes l.numbers))
