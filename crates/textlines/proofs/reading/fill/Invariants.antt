-- The calls of the lines so far stand in the lists.
use Rattle.std.proofs.Common.{◌≡◌, length, take}
use Rattle.tripfile.specs.Bodies.{codes_of, numbers_of}
use Rattle.text.specs.Text.{placed}
use Rattle.textlines.specs.Text.{calls_of}
use Rattle.textlines.proofs.reading.fill.Given as goal

abbrev pub invariant-loop-i : goal.invariant-loop-i
invariant-loop-i l = record {
  codes : l.codes ≡ placed l.fn.codes 0 (take (length l.yielded) (codes_of (calls_of l.text)));
  numbers : l.numbers ≡ placed l.fn.numbers 0 (take (length l.yielded) (numbers_of (calls_of l.text)));
}
