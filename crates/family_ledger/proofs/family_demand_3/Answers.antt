use Rattle.family_ledger.proofs.Claims.{family_demand_3}
use Rattle.family_ledger.proofs.family_demand_3.Goals as goal

pub returns : goal.returns
returns c = family_demand_3
