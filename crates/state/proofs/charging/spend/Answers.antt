-- What is known of a use that is not refused bounds what it makes of the account.
use Rattle.std.proofs.Common.{arith}
use Rattle.state.specs.Use.{cost, spent}
use Rattle.state.specs.Needs.{bill_of}
use Rattle.state.proofs.Billing.{spends_tell, today_sum}
use Rattle.state.proofs.charging.spend.Goals as goal

pub overflow_sub-a : goal.overflow_sub-a
overflow_sub-a c = omega (arith, (spends_tell _ _ _ c.requires.0).grown)

pub overflow_sub-a-2 : goal.overflow_sub-a-2
overflow_sub-a-2 c = omega (arith, (spends_tell _ _ _ c.requires.0).grown)

pub overflow_add-a : goal.overflow_add-a
overflow_add-a c = omega (arith, (spends_tell _ _ _ c.requires.0).grown)

pub overflow_sub-a-3 : goal.overflow_sub-a-3
overflow_sub-a-3 c =
    let t = spends_tell _ _ _ c.requires.0 in
    omega (arith, t.costs, t.affordable)

pub plus-requires-2 : goal.plus-requires-2
plus-requires-2 c = (spends_tell _ _ _ c.requires.0).fresh

pub overflow_add-a-3 : goal.overflow_add-a-3
overflow_add-a-3 c = omega (arith, (spends_tell _ _ _ c.requires.0).month)

pub overflow_add-a-4 : goal.overflow_add-a-4
overflow_add-a-4 c = omega (arith, (spends_tell _ _ _ c.requires.0).zone)

pub added-a-requires : goal.added-a-requires
added-a-requires c = rw c.marked.ensures (today_sum c.args.a c.args.u c.requires.0.steady c.requires.1)

pub returns : goal.returns
unfolding spent cost bill_of
returns c = simp (c.added-a.ensures, c.marked.ensures, c.plus-2.ensures, c.plus.ensures, c.requires.0.bill_is)
