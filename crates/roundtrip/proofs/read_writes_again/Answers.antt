-- The claim, as proved of the definitions.
use Rattle.roundtrip.proofs.Again.{read_writes_again}
use Rattle.roundtrip.proofs.read_writes_again.Goals as goal

pub returns : goal.returns
returns c = read_writes_again
