use Rattle.meter.proofs.Held.{calls_follow}
use Rattle.meter.proofs.claims.calls_follow_the_account.Goals as goal

pub returns : goal.returns
returns c = calls_follow
