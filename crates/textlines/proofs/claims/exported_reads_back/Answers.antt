-- The claim, as proved of the definitions.
use Rattle.textlines.proofs.RoundTrips.{exported_reads_back}
use Rattle.textlines.proofs.claims.exported_reads_back.Goals as goal

pub returns : goal.returns
returns c = exported_reads_back
