-- `presence::log::join_days` has joined the first i days.
use Rattle.std.proofs.Common.{◌≡◌}
use Rattle.presence.specs.Log.{days_of}
use Rattle.presence.specs.Held.{bits_over}
use Rattle.presence.proofs.log.join_days.Given as goal

abbrev pub invariant-loop-i : goal.invariant-loop-i
invariant-loop-i l = l.bits ≡ bits_over l.i (days_of l.log)
