-- The claim, as proved of the definitions.
use Rattle.roundtrip.proofs.Keeps.{read_keeps_trip}
use Rattle.roundtrip.proofs.read_keeps_trip.Goals as goal

pub returns : goal.returns
returns c = read_keeps_trip
