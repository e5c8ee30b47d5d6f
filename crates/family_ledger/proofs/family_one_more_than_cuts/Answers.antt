use Rattle.family_ledger.proofs.Claims.{family_one_more_than_cuts}
use Rattle.family_ledger.proofs.family_one_more_than_cuts.Goals as goal

pub returns : goal.returns
returns c = family_one_more_than_cuts
