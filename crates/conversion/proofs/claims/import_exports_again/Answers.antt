-- The claim, as proved of the definitions.
use Rattle.conversion.proofs.Converting.{import_exports_again}
use Rattle.conversion.proofs.claims.import_exports_again.Goals as goal

pub returns : goal.returns
returns c = import_exports_again
