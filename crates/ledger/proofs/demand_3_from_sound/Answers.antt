use Rattle.ledger.proofs.Claims.{demand_3_from_sound}
use Rattle.ledger.proofs.demand_3_from_sound.Goals as goal

pub returns : goal.returns
returns c = demand_3_from_sound
