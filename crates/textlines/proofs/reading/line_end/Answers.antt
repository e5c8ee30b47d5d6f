-- The line ends after its line feed, or where the text does.
use Rattle.std.proofs.Common.{arith}
use Rattle.textlines.proofs.Lines.{ended_line, unended_line}
use Rattle.textlines.proofs.reading.line_end.Goals as goal

pub returns-then-e-n-clause-split : goal.returns-then-e-n-clause-split
returns-then-e-n-clause-split c =
    let f = c.before_feed-e.ensures in
    ended_line c.args.text.now c.before_feed-e.result _ f.before (omega arith) (f.found (omega arith)) (omega arith)

pub returns-else-e-n-clause-split : goal.returns-else-e-n-clause-split
returns-else-e-n-clause-split c =
    let f = c.before_feed-e.ensures in
    unended_line c.args.text.now c.before_feed-e.result _ f.before (omega arith) c.requires (omega (arith, f.within))
