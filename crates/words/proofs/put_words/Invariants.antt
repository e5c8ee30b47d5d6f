-- The words so far are written, and the bytes after them stay.
use Rattle.std.proofs.Common.{◌≡◌, ◌*◌, ◌++◌, take, drop}
use Rattle.words.specs.Words.{bytes_of}
use Rattle.words.proofs.put_words.Given as goal

abbrev pub invariant-loop-i : goal.invariant-loop-i
invariant-loop-i l = l.s ≡ bytes_of (take l.i l.ws) ++ drop (4 * l.i) l.fn.s
