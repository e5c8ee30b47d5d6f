-- The claim, as proved of the definitions.
use Rattle.conversion.proofs.Converting.{export_imports_again}
use Rattle.conversion.proofs.claims.export_imports_again.Goals as goal

pub returns : goal.returns
returns c = export_imports_again
