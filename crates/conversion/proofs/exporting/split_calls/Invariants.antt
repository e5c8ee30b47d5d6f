-- Codes and numbers of the calls so far stand in the lists.
use Rattle.conversion.proofs.Listing.{Split}
use Rattle.conversion.proofs.exporting.split_calls.Given as goal

abbrev pub invariant-loop-i : goal.invariant-loop-i
invariant-loop-i l = Split l.section l.fn.codes l.fn.numbers l.codes l.numbers l.i
