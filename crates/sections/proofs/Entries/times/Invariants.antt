-- So many of the entries so far are of the kind.
use Rattle.std.proofs.Common.{◌≡◌, ◌≤◌}
use Rattle.sections.specs.Find.{times_to}
use Rattle.sections.proofs.Entries.times.Given as goal

abbrev pub invariant-loop-i : goal.invariant-loop-i
invariant-loop-i l = (l.times ≡ times_to l.self.file.now l.kind l.i) × (l.times ≤ l.i)
