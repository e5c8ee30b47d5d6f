-- A section that is found is there just once, in a file that is not declined.
use Rattle.std.proofs.Common.{sym, ◌∙◌, ap}
use Rattle.tariff.specs.Tests.{is_accepted}
use Rattle.sections.proofs.Finding.{found_both}
use Rattle.sections.proofs.find.Goals as goal

pub part-requires : goal.part-requires
part-requires c = found_both c.args.file.now c.args.kind (ap is_accepted (sym c.find_verdict.ensures ∙ c.in-Ok.is))
