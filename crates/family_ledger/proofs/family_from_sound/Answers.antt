use Rattle.family_ledger.proofs.Claims.{family_from_sound}
use Rattle.family_ledger.proofs.family_from_sound.Goals as goal

pub returns : goal.returns
returns c = family_from_sound
