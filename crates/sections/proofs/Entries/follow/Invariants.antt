-- The entries so far follow each other, and the next body starts after theirs.
use Rattle.std.proofs.Common.{◌≡◌, ◌+◌, ◌*◌, ◌≤◌}
use Rattle.sections.specs.Table.{follow_to, body_start}
use Rattle.sections.proofs.Entries.follow.Given as goal

abbrev pub invariant-loop-i : goal.invariant-loop-i
invariant-loop-i l = (l.right ≡ follow_to l.self.file.now l.i) × (l.at ≡ body_start l.self.file.now l.i) × (l.at ≤ 108 + 4294967296 * l.i)
