-- The claim, as proved of the definitions.
use Rattle.roundtrip.proofs.Back.{written_reads_back}
use Rattle.roundtrip.proofs.written_reads_back.Goals as goal

pub returns : goal.returns
returns c = written_reads_back
