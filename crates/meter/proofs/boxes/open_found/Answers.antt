use Rattle.std.proofs.Common.{sym, ◌∙◌, ap}
use Rattle.tariff.specs.Plan.{plan_of}
use Rattle.meter.proofs.Open.{granted_opens}
use Rattle.meter.proofs.Found.{open_bad, open_0, open_declined, open_granted_is}
use Rattle.meter.proofs.boxes.open_found.Goals as goal

pub returns-then-plan-ne7-clause-returned : goal.returns-then-plan-ne7-clause-returned
returns-then-plan-ne7-clause-returned c =
    c.left_with.ensures ∙ (open_bad c.args.account.now c.args.s c.args.plan.now c.if-plan-ne7.true).0

pub returns-then-plan-ne7-clause-numbers : goal.returns-then-plan-ne7-clause-numbers
returns-then-plan-ne7-clause-numbers c = (open_bad c.args.account.now c.args.s c.args.plan.now c.if-plan-ne7.true).1

pub returns-then-account-ne1649-clause-returned : goal.returns-then-account-ne1649-clause-returned
returns-then-account-ne1649-clause-returned c =
    let b = (open_0 c.args.account.now c.args.s c.args.plan.now c.if-plan-ne7.false c.if-account-ne1649.true).0 in
    cc

pub returns-then-account-ne1649-clause-numbers : goal.returns-then-account-ne1649-clause-numbers
returns-then-account-ne1649-clause-numbers c =
    (open_0 c.args.account.now c.args.s c.args.plan.now c.if-plan-ne7.false c.if-account-ne1649.true).1

pub open_granted-requires : goal.open_granted-requires
open_granted-requires c = (c.if-account-ne1649.false, granted_opens _ _ (sym c.plan_from.ensures ∙ c.in-Ok.is))

pub returns-in-Ok-clause-returned : goal.returns-in-Ok-clause-returned
returns-in-Ok-clause-returned c =
    let e = sym (c.plan_from.ensures ∙ ap plan_of c.terms_of.ensures) ∙ c.in-Ok.is in
    c.open_granted.ensures.returned
    ∙ (open_granted_is c.args.account.now c.args.s c.args.plan.now _ _ c.if-plan-ne7.false
    c.if-account-ne1649.false e c.open_granted.ensures.numbers).0

pub returns-in-Ok-clause-numbers : goal.returns-in-Ok-clause-numbers
returns-in-Ok-clause-numbers c =
    let e = sym (c.plan_from.ensures ∙ ap plan_of c.terms_of.ensures) ∙ c.in-Ok.is in
    (open_granted_is c.args.account.now c.args.s c.args.plan.now _ _ c.if-plan-ne7.false
    c.if-account-ne1649.false e c.open_granted.ensures.numbers).1

pub returns-in-Err-clause-returned : goal.returns-in-Err-clause-returned
returns-in-Err-clause-returned c =
    let e = sym (c.plan_from.ensures ∙ ap plan_of c.terms_of.ensures) ∙ c.in-Err.is in
    let b = (open_declined c.args.account.now c.args.s c.args.plan.now _ c.if-plan-ne7.false c.if-account-ne1649.false e).0 in
    cc

pub returns-in-Err-clause-numbers : goal.returns-in-Err-clause-numbers
returns-in-Err-clause-numbers c =
    let e = sym (c.plan_from.ensures ∙ ap plan_of c.terms_of.ensures) ∙ c.in-Err.is in
    (open_declined c.args.account.now c.args.s c.args.plan.now _ c.if-plan-ne7.false c.if-account-ne1649.false e).1
