-- One entry more: whether it follows, and where its body ends.
use Rattle.std.proofs.Common.{arith}
use Rattle.sections.proofs.Table.{follow_more, body_more}
use Rattle.sections.proofs.Entries.follow.Goals as goal

pub loop-i-preserved : goal.loop-i-preserved
loop-i-preserved c =
    let f = c.args.self.file.now in
    let i = c.loop-i.i in (
      simp (c.loop-i.invariant.0, c.loop-i.invariant.1, c.start-start.ensures, c.length-len.ensures, follow_more f i),
      omega (arith, body_more f i),
      omega arith,
    )
