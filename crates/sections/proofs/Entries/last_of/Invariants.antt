-- The last of the entries so far that is of the kind.
use Rattle.std.proofs.Common.{◌≡◌}
use Rattle.sections.specs.Find.{entry_to}
use Rattle.sections.proofs.Entries.last_of.Given as goal

abbrev pub invariant-loop-i : goal.invariant-loop-i
invariant-loop-i l = l.entry ≡ entry_to l.self.file.now l.kind l.i
