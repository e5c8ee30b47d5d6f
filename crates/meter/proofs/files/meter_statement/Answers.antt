use Rattle.std.proofs.Common.{sym, ◌∙◌, arith}
use Rattle.meter.proofs.Ran.{limit_fits}
use Rattle.meter.proofs.files.meter_statement.Goals as goal

pub put_figures-requires : goal.put_figures-requires
put_figures-requires c =
    (omega arith, limit_fits c.args.file.now _ (sym c.statement_of.ensures ∙ c.in-Ok.is))
