-- The calls so far stand in the buffer.
use Rattle.std.proofs.Common.{length}
use Rattle.textlines.proofs.Putting.{Putting}
use Rattle.textlines.proofs.export.put_text.Given as goal

abbrev pub invariant-loop-code : goal.invariant-loop-code
invariant-loop-code l = Putting l.codes l.numbers l.fn.buf l.buf l.at (length l.yielded)
