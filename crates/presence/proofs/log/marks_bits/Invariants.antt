-- `presence::log::marks_bits` has joined the marks of the first i days.
use Rattle.std.proofs.Common.{◌≡◌}
use Rattle.presence.specs.Held.{bits_of, marks_kept}
use Rattle.presence.proofs.log.marks_bits.Given as goal

abbrev pub invariant-loop-i : goal.invariant-loop-i
invariant-loop-i l = l.bits ≡ bits_of (marks_kept l.log) l.i
