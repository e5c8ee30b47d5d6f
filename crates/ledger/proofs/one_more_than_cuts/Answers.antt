use Rattle.ledger.proofs.Claims.{one_more_than_cuts}
use Rattle.ledger.proofs.one_more_than_cuts.Goals as goal

pub returns : goal.returns
returns c = one_more_than_cuts
