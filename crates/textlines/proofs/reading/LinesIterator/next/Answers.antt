-- Where no byte is left no line is.
use Rattle.std.proofs.Common.{ap, ◌∙◌, arith}
use Rattle.std.proofs.lemmas.List.{nil_from_length}
use Rattle.textlines.specs.Text.{lines_of}
use Rattle.textlines.proofs.Split.{nothing}
use Rattle.textlines.proofs.reading.LinesIterator.next.Goals as goal

pub returns-then-is_empty-clause-steps : goal.returns-then-is_empty-clause-steps
returns-then-is_empty-clause-steps c =
    let e = ap lines_of (nil_from_length c.args.self.now.rest.now (search arith)) ∙ nothing in
    (e, e)
