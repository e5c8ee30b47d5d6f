-- The answer on bodies whose own tests pass is the plan's.
use Rattle.std.proofs.Common.{◌/◌, Result, sym, ◌∙◌, ap, length, arith}
use Rattle.std.proofs.lemmas.Result.{err_from_is_err_and}
use Rattle.tariff.specs.declared.Plan.{Plan}
use Rattle.tariff.specs.declared.Refusal.{Refusal}
use Rattle.tariff.specs.Plan.{plan_of}
use Rattle.tripfile.proofs.Accepted.{read_by, bodies_read}
use Rattle.tripfile.proofs.reading.read_bodies.Goals as goal

pub returns-in_err-plan : goal.returns-in_err-plan
returns-in_err-plan c =
    let p = c.args.plan.now in
    let n = length c.args.calls.now / 8 in
    let e = err_from_is_err_and c.from_residual.result c.from_residual.ensures.1 in
    rw (e.1, e.2) (ap (λ (v : Result Plan Refusal). read_by v n) (sym c.in_err-plan.was ∙ (c.plan_from.ensures ∙ ap plan_of c.terms_of.ensures))
    ∙ bodies_read p c.args.calls.now n (omega arith) (λ e. omega arith) (omega arith) (sym c.body_right.ensures ∙ c.if-not-body_right.false))

pub returns : goal.returns
returns c =
    let p = c.args.plan.now in
    let n = length c.args.calls.now / 8 in
    ap (λ (v : Result Plan Refusal). read_by v n) (sym c.in_ok-plan.was ∙ (c.plan_from.ensures ∙ ap plan_of c.terms_of.ensures))
    ∙ bodies_read p c.args.calls.now n (omega arith) (λ e. omega arith) (omega arith) (sym c.body_right.ensures ∙ c.if-not-body_right.false)
