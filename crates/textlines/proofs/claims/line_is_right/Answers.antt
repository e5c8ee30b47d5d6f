-- The claim, as proved of the definitions.
use Rattle.textlines.proofs.RoundTrips.{line_is_right}
use Rattle.textlines.proofs.claims.line_is_right.Goals as goal

pub returns : goal.returns
returns c = line_is_right
