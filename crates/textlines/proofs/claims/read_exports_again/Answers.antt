-- The claim, as proved of the definitions.
use Rattle.textlines.proofs.RoundTrips.{read_exports_again}
use Rattle.textlines.proofs.claims.read_exports_again.Goals as goal

pub returns : goal.returns
returns c = read_exports_again
