-- The lines before the first that is not of the form are counted; there are no more of them than bytes.
use Rattle.std.proofs.Common.{ap, ◌∙◌, arith, inl, rules, tests}
use Rattle.std.proofs.lemmas.Iterator.Consumers.{count_from_yields_List}
use Rattle.std.proofs.lemmas.Iterator.Search.{YieldsList-from_take_while}
use Rattle.textlines.specs.declared.reading.Lines.{Lines}
use Rattle.textlines.specs.Line.{right_line}
use Rattle.textlines.specs.Text.{lines_of}
use Rattle.textlines.proofs.Split.{lines_few}
use Rattle.textlines.proofs.Lines.{yields_lines, right_first}
use Rattle.textlines.proofs.reading.count_right.Goals as goal

pub count-requires-clause-fits : goal.count-requires-clause-fits
count-requires-clause-fits c = rw c.take_while.ensures.source (inl (omega (arith, lines_few c.args.text.now)))

pub returns : goal.returns
returns c =
    count_from_yields_List _ _ c.count.ensures.ran
    (YieldsList-from_take_while _ right_line
    (yields_lines c.args.text.now (ap (λ (l : Lines). l.rest.now) c.take_while.ensures.source))
    c.take_while.ensures.closure c.take_while.ensures.done (λ x b q k. search (rules, tests)))
    ∙ right_first (lines_of c.args.text.now)
