-- Caps and newly surcharged units can be multiplied.
use Rattle.state.proofs.Billing.{basis_product}
use Rattle.state.proofs.charging.basis_with.Goals as goal

pub times-requires : goal.times-requires
times-requires c = rw (c.caps_of-rate.ensures, c.requires.fresh) (basis_product _ _ c.requires.ready)
