use Rattle.std.proofs.Common.{sym, ◌∙◌, ap}
use Rattle.tariff.specs.Plan.{plan_of}
use Rattle.meter.proofs.Open.{granted_opens, open_done, open_declined}
use Rattle.meter.proofs.opening.meter_open.Goals as goal

pub open_on-requires : goal.open_on-requires
open_on-requires c = (c.if-account-ne1649.false, granted_opens _ _ (sym c.plan_from.ensures ∙ c.in-Ok.is))

pub returns-in-Ok-clause-numbers : goal.returns-in-Ok-clause-numbers
returns-in-Ok-clause-numbers c =
    let e = sym (c.plan_from.ensures ∙ ap plan_of c.terms_of.ensures) ∙ c.in-Ok.is in
    (open_done c.args.account.now c.args.plan.now _ _ c.if-plan-ne7.false c.if-account-ne1649.false e c.open_on.ensures).1

pub returns-in-Err-clause-numbers : goal.returns-in-Err-clause-numbers
returns-in-Err-clause-numbers c =
    let e = sym (c.plan_from.ensures ∙ ap plan_of c.terms_of.ensures) ∙ c.in-Err.is in
    (open_declined c.args.account.now c.args.plan.now _ c.if-plan-ne7.false c.if-account-ne1649.false e).1
