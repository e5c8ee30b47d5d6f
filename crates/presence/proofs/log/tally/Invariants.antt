-- `presence::log::tally` has added up the first i days.
use Rattle.std.proofs.Common.{◌≡◌}
use Rattle.presence.specs.Log.{days_of, units_over}
use Rattle.presence.proofs.log.tally.Given as goal

abbrev pub invariant-loop-i : goal.invariant-loop-i
invariant-loop-i l = l.sum ≡ units_over l.i (days_of l.log)
