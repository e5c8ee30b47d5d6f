-- What is known of a use that is not refused bounds its figures.
use Rattle.std.proofs.Common.{arith}
use Rattle.state.specs.Use.{charge_of}
use Rattle.state.specs.Needs.{bill_of}
use Rattle.state.proofs.Billing.{spends_tell}
use Rattle.state.proofs.charging.charge_on.Goals as goal

pub overflow_sub-result : goal.overflow_sub-result
overflow_sub-result c = omega (arith, (spends_tell _ _ _ c.requires).grown)

pub overflow_sub-result-2 : goal.overflow_sub-result-2
overflow_sub-result-2 c = omega (arith, (spends_tell _ _ _ c.requires).grown)

pub overflow_add-a : goal.overflow_add-a
overflow_add-a c = omega (arith, spends_tell _ _ _ c.requires)

pub returns : goal.returns
unfolding charge_of bill_of
returns c = simp (c.amount.ensures, c.amount-2.ensures, c.notice_at.ensures, c.requires.bill_is)
