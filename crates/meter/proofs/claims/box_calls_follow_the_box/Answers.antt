use Rattle.meter.proofs.Found.{box_calls_follow}
use Rattle.meter.proofs.claims.box_calls_follow_the_box.Goals as goal

pub returns : goal.returns
returns c = box_calls_follow
