-- The calls run first are all calls of the section.
use Rattle.std.proofs.Common.{◌∙◌, arith}
use Rattle.replay.proofs.Running.{all_replayed}
use Rattle.replay.proofs.run_section.Goals as goal

pub returns : goal.returns
returns c = c.run_calls.ensures ∙ all_replayed _ _ _ (omega arith)
