-- The calls so far are written, and the bytes after them stay.
use Rattle.std.proofs.Common.{◌≡◌, ◌*◌, ◌++◌, length, take, drop}
use Rattle.words.specs.Words.{bytes_of}
use Rattle.tripfile.specs.Bodies.{call_words, paired}
use Rattle.tripfile.proofs.writing.put_calls.Given as goal

abbrev pub invariant-loop-i : goal.invariant-loop-i
invariant-loop-i l =
    l.s ≡ bytes_of (take (2 * length l.yielded) (call_words (paired l.codes l.numbers))) ++ drop (4 * (2 * length l.yielded)) l.fn.s
