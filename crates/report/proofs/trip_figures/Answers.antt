-- A file that was read has its calls section, and what stands there is run.
use Rattle.std.proofs.Common.{◌∙◌}
use Rattle.report.proofs.Running.{section_once, trip_shown}
use Rattle.report.proofs.trip_figures.Goals as goal

pub part-requires : goal.part-requires
part-requires c = section_once _ _ _ c.requires

pub returns : goal.returns
returns c =
    c.show_figures.ensures
    ∙ trip_shown _ _ c.args.trip.calls c.open_with-opened.result c.log_empty-log.result c.part.result.now c.section_with-t.new.log c.section_with-t.result c.requires c.open_with-opened.ensures c.log_empty-log.ensures c.part.ensures.bytes c.section_with-t.ensures
