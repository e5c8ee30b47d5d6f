-- The bytes from the part's start to its end are those that the entry names.
use Rattle.std.proofs.Common.{◌≡◌, ◌+◌, ◌-◌, arith}
use Rattle.sections.proofs.Finding.{part_bytes}
use Rattle.sections.proofs.part.Goals as goal

pub returns-clause-bytes : goal.returns-clause-bytes
returns-clause-bytes c =
    let s = c.part_extent-start.result.start in
    let n = c.part_extent-start.result.length in
    let e : s + n - s ≡ n = omega arith in
    rw e (simp c.part_extent-start.ensures (part_bytes c.args.file.now c.args.kind))
