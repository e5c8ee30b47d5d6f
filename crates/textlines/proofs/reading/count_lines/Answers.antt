-- There are no more lines than bytes.
use Rattle.std.proofs.Common.{arith, inl}
use Rattle.textlines.proofs.Split.{lines_few}
use Rattle.textlines.proofs.reading.count_lines.Goals as goal

pub count-requires-clause-fits : goal.count-requires-clause-fits
count-requires-clause-fits c = inl (omega (arith, lines_few c.args.text.now))
