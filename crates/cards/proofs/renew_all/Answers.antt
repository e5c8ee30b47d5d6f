use Rattle.std.proofs.Common.{arith}
use Rattle.std.proofs.lemmas.Grind.{common_steps}
use Rattle.std.proofs.lemmas.List.Edits.{map_over_more}
use Rattle.cards.specs.Survey.{renewed}
use Rattle.cards.proofs.renew_all.Goals as goal

pub loop-card-preserved : goal.loop-card-preserved
loop-card-preserved c = grind (arith, common_steps, map_over_more (renewed c.args.renewal))
