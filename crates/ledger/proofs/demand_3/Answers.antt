use Rattle.ledger.proofs.Claims.{demand_3}
use Rattle.ledger.proofs.demand_3.Goals as goal

pub returns : goal.returns
returns c = demand_3
