-- The length so far is that of the text of the calls so far, of at most 30 bytes each.
use Rattle.std.proofs.Common.{◌≡◌, ◌*◌, ◌≤◌, length, take}
use Rattle.tripfile.specs.Bodies.{paired}
use Rattle.textlines.specs.Text.{text_of}
use Rattle.textlines.proofs.export.text_length.Given as goal

abbrev pub invariant-loop-code : goal.invariant-loop-code
invariant-loop-code l = record {
  few : l.total ≤ 30 * length l.yielded;
  so_far : l.total ≡ length (text_of (take (length l.yielded) (paired l.codes l.numbers)));
}
