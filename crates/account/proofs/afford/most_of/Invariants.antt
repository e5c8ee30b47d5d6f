-- What lo units cost is afforded, and what more than hi units cost is not; the search halves what is between.
use Rattle.std.proofs.Common.{◌-◌}
use Rattle.account.proofs.Search.{Between}
use Rattle.account.proofs.afford.most_of.Given as goal

abbrev pub invariant-loop-lo : goal.invariant-loop-lo
invariant-loop-lo l = Between l.q l.lo l.hi

abbrev pub decreases-loop-lo : goal.decreases-loop-lo
decreases-loop-lo l = l.hi - l.lo
