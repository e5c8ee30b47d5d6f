-- Demand 3, from any sound account and from Open, that a sound one stays sound, and what a match compares. Assumes nothing.
use mathlib.Core.Path.{◌≡◌, refl, sym, ◌∙◌, ap, subst}
use mathlib.Core.Bool.{true}
use mathlib.Core.List.{List, [], ◌∷◌}
use Rattle.tariff.specs.declared.Plan.{Plan}
use Rattle.tariff.specs.Tests.{is_accepted}
use Rattle.tariff.specs.Plan.{plan_verdict}
use Rattle.account.specs.declared.Account.{Account}
use Rattle.account.specs.declared.Opened.{Opened}
use Rattle.account.specs.declared.Call.{Call}
use Rattle.account.specs.Whole.{sound, opened}
use Rattle.account.specs.Calls.{step}
use Rattle.account.specs.Answers.{open_answer}
use Rattle.account.proofs.Kept.{Sound, sound_tells, sound_passes, sound_step, sound_opened}
use Rattle.machine.specs.Machine as machine
use Rattle.machine.specs.Machine.{accepted}
use Rattle.machine.proofs.Lengths.{one_more, end_is_last}
use Rattle.ledger.specs.Lists.{run, account_calls}
use Rattle.ledger.specs.Demand3.{Demand3, Demand3FromSound, SoundStaysSound, OneMoreThanCuts, EndIsCompared, Claim, OpensAs}
use Rattle.ledger.specs.Journal.{Opening, new_opening, opening_of}
use Rattle.ledger.proofs.Match.{account_matches}
use Rattle.ledger.proofs.Book.{balanced, opening_new}
use Rattle.std.specs.Prelude.{Ok}

sound_run : (a : Account) (cs : List Call) → Sound a → Sound (run a cs)
unfolding machine.run machine.step step
sound_run a [] s = s
sound_run a (c ∷ cs) s = sound_run (step a c) cs (sound_step a c s)

-- every account that a list leads to from a sound one is sound
pub sound_stays_sound : SoundStaysSound
sound_stays_sound a s cs = sound_passes (run a cs) (sound_run a cs (sound_tells a s))

-- an account that Open handed out is the newly opened one, and its plan was accepted
opened_plan : (p : Plan) (a : Account) → OpensAs p a → plan_verdict p ≡ Ok tt
unfolding open_answer
opened_plan p a e = ap (λ (r : Opened). r.answer) e

opened_is : (p : Plan) (a : Account) → OpensAs p a → opened p ≡ a
unfolding open_answer
opened_is p a e =
    let v : plan_verdict p ≡ Ok tt = opened_plan p a e in
    let r = ap (λ (r : Opened). r.account) e in
    rw v at r

opened_sound : (p : Plan) (a : Account) → OpensAs p a → sound (opened p) ≡ true
opened_sound p a e =
    let v : plan_verdict p ≡ Ok tt = opened_plan p a e in
    let b : is_accepted (plan_verdict p) ≡ true = rw v refl in
    sound_passes (opened p) (sound_opened p b)

pub demand_3_from_sound : Demand3FromSound
demand_3_from_sound a s xs ys = record {
  matched = λ e. account_matches a (sound_tells a s).money.worked xs ys e;
  shown = balanced a xs (sound_tells a s);
  stays_sound = sound_stays_sound a s xs;
}

pub demand_3 : Demand3
demand_3 p a b e f xs ys =
    let x : opened p ≡ a = opened_is p a e in
    let y : opened p ≡ b = opened_is p b f in
    let q : a ≡ b = sym x ∙ y in
    let s : sound a ≡ true = ap sound (sym x) ∙ opened_sound p a e in
    let n : opening_of a ≡ new_opening p = ap opening_of (sym x) ∙ opening_new p in
    subst (λ (z : Account). Claim (new_opening p) a z xs ys) q (subst (λ (o : Opening). Claim o a a xs ys) n (demand_3_from_sound a s xs ys))

pub one_more_than_cuts : OneMoreThanCuts
one_more_than_cuts a cs = one_more account_calls a cs

pub end_is_compared : EndIsCompared
end_is_compared a b cs = end_is_last account_calls a b cs
