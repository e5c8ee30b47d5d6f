-- The claim, as proved of the definitions.
use Rattle.reader.proofs.Handing as theorem
use Rattle.reader.proofs.hands_out_calls.Goals as goal

pub returns : goal.returns
returns c = theorem.hands_out_calls
