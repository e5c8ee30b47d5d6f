use Rattle.std.proofs.Common.{◌≡◌, true, refl, sym, ◌∙◌, ap}
use Rattle.std.specs.Prelude.{Result, Ok, Err, ⊤}
use Rattle.tariff.specs.declared.Plan.{Plan}
use Rattle.tariff.specs.declared.Refusal.{Refusal}
use Rattle.tariff.specs.Tests.{is_accepted}
use Rattle.tariff.specs.Plan.{plan_verdict}
use Rattle.account.specs.declared.StateOpened.{StateOpened}
use Rattle.account.specs.Whole.{opened}
use Rattle.account.specs.Answers.{open_answer}
use Rattle.numbers.specs.Numbers.{account_numbers}
use Rattle.cards.specs.declared.Survey.{Survey}
use Rattle.cards.specs.declared.Change.{Change}
use Rattle.family.specs.Seen.{seen_verdict, seen_opened, opening_change}
use Rattle.meter.proofs.boxes.open_granted.Goals as goal

-- what opening answered is its verdict
told : (p : Plan) (s : Survey) (r : StateOpened) → r ≡ seen_opened p s → r.answer ≡ seen_verdict p s
unfolding seen_opened
told p s r e = ap (λ (x : StateOpened). x.answer) e

-- an accepted plan's account is new
new : (p : Plan) → is_accepted (plan_verdict p) ≡ true → (open_answer p).account ≡ opened p
unfolding open_answer
new p h = rw h refl

pub returns-in-Ok-clause-returned : goal.returns-in-Ok-clause-returned
returns-in-Ok-clause-returned c =
    let a = c.args in
    let e : seen_verdict a.p a.s ≡ Ok tt = sym (told a.p a.s _ c.open_seen-opened.ensures) ∙ c.in-Ok.is in
    rw e (ap (λ (x : Change). record { code = 1000; change = x })
    (c.opening_of-change.ensures ∙ ap (λ (w : Result ⊤ Refusal). opening_change w a.s) c.in-Ok.is))

pub returns-in-Ok-clause-numbers : goal.returns-in-Ok-clause-numbers
returns-in-Ok-clause-numbers c =
    let a = c.args in
    let e : seen_verdict a.p a.s ≡ Ok tt = sym (told a.p a.s _ c.open_seen-opened.ensures) ∙ c.in-Ok.is in
    rw e (c.open_on.ensures ∙ ap account_numbers (new a.p c.requires.1))

pub returns-in-Err-clause-returned : goal.returns-in-Err-clause-returned
returns-in-Err-clause-returned c =
    let a = c.args in
    let e : seen_verdict a.p a.s ≡ Err c.in-Err.refusal = sym (told a.p a.s _ c.open_seen-opened.ensures) ∙ c.in-Err.is in
    let k = c.opening_of-change.ensures ∙ ap (λ (w : Result ⊤ Refusal). opening_change w a.s) c.in-Err.is in
    rw e cc

pub returns-in-Err-clause-numbers : goal.returns-in-Err-clause-numbers
returns-in-Err-clause-numbers c =
    let a = c.args in
    let e : seen_verdict a.p a.s ≡ Err c.in-Err.refusal = sym (told a.p a.s _ c.open_seen-opened.ensures) ∙ c.in-Err.is in
    rw e refl
