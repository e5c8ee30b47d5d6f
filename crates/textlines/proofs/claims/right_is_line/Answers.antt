-- The claim, as proved of the definitions.
use Rattle.textlines.proofs.RoundTrips.{right_is_line}
use Rattle.textlines.proofs.claims.right_is_line.Goals as goal

pub returns : goal.returns
returns c = right_is_line
