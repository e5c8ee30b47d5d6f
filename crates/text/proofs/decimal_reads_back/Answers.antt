-- The claim, as proved of the definitions.
use Rattle.text.proofs.Decimals.{reads_back}
use Rattle.text.proofs.decimal_reads_back.Goals as goal

pub returns : goal.returns
returns c = reads_back
