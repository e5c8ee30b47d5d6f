use Rattle.meter.proofs.Found.{refused_changes_no_card}
use Rattle.meter.proofs.claims.refused_changes_no_card.Goals as goal

pub returns : goal.returns
returns c = refused_changes_no_card
