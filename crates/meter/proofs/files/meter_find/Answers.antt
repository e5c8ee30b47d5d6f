use Rattle.std.proofs.Common.{sym, ◌∙◌, ap, length}
use borrow.Author.Tests.{le-leb}
use Rattle.tariff.specs.Tests.{is_accepted}
use Rattle.sections.proofs.Finding.{found_both}
use Rattle.meter.proofs.Ran.{found_laid}
use Rattle.meter.proofs.files.meter_find.Goals as goal

pub part_extent-e-requires : goal.part_extent-e-requires
part_extent-e-requires c =
    found_both c.args.file.now c.args.kind (ap is_accepted (sym c.find_verdict.ensures ∙ c.in-Ok.is))

pub returns-in-Ok-clause-answered : goal.returns-in-Ok-clause-answered
returns-in-Ok-clause-answered c =
    let a = c.args in
    let h = le-leb 2 (length a.answer.now) c.if-answer-lt2.false in
    rw h (found_laid a.file.now a.kind a.answer.now _ c.part_extent-e.result (sym c.find_verdict.ensures ∙ c.in-Ok.is)
    c.part_extent-e.ensures c.put_first.ensures)
