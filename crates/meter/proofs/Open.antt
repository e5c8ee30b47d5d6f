-- An account opened over any numbers. Assumes nothing.
use Prim.Native.Nat.{ℕ}
use mathlib.Core.Path.{◌≡◌, refl, sym, ◌∙◌, ap}
use mathlib.Core.Bool.{true}
use mathlib.Core.List.{List, ◌++◌}
use native.Mathlib.Omega.{arith}
use lib.ListN.{length, take, drop, replicate, length-replicate, length-append, length-drop}
use lib.Seq.{take_at}
use borrow.Author.Tests.{eq-eqb, ne_eqb}
use Rattle.tariff.specs.declared.Plan.{Plan}
use Rattle.tariff.specs.declared.Terms.{Terms}
use Rattle.tariff.specs.Tests.{verdict_of, is_accepted}
use Rattle.tariff.specs.Plan.{plan_verdict, plan_with, plan_answer, plan_of, terms_reasons}
use Rattle.tariff.proofs.PlanLaws.{known_form, form_known}
use Rattle.state.specs.declared.State.{State}
use Rattle.state.specs.Needs.{Payable}
use Rattle.state.specs.Moves.{opened_state}
use Rattle.tariff.proofs.Verdicts.{accepted_is}
use Rattle.account.proofs.Parts.{opens_payable}
use Rattle.account.specs.Whole.{opened}
use Rattle.account.specs.Answers.{open_answer}
use Rattle.account.proofs.Kept.{sound_opened}
use Rattle.numbers.specs.Numbers.{terms_from, state_numbers, log_part, account_numbers, Writable}
use Rattle.meter.specs.Calls.{open_verdict, open_code, open_numbers}
use Rattle.meter.proofs.Held.{prefix_length, writable}
use Rattle.std.specs.Prelude.{Result, Ok, Err, ⊤}
use Rattle.tariff.specs.declared.Refusal.{Refusal}
use Rattle.tariff.specs.Refusal.{refusal_number}

abbrev pub zeros : ℕ → List ℕ
zeros n = replicate n 0

length-zeros : (n : ℕ) → length (zeros n) ≡ n
length-zeros n = length-replicate n 0

-- the log's part filled with zeros
pub blanked : (s l : List ℕ) → length s ≡ 1649 → l ≡ zeros (length (take 1599 s)) → l ++ drop 1599 s ≡ zeros 1599 ++ drop 1599 s
blanked s l h e = ap (λ (t : List ℕ). t ++ drop 1599 s) (e ∙ ap zeros (prefix_length s h))

pub blank-length : (s zs : List ℕ) → length s ≡ 1649 → zs ≡ zeros 1599 ++ drop 1599 s → length zs ≡ 1649
blank-length s zs h e = ap length e ∙ (length-append (zeros 1599) (drop 1599 s) ∙ omega (arith, length-zeros 1599, length-drop 1599 s))

-- an accepted plan's account
opens : (p : Plan) → is_accepted (plan_verdict p) ≡ true → (open_answer p).account ≡ opened p
unfolding open_answer
opens p h = rw h refl

pub payable : (p : Plan) → is_accepted (plan_verdict p) ≡ true → Payable p
payable p h = opens_payable p (accepted_is (plan_verdict p) h)

pub writable_new : (p : Plan) (r : State) → is_accepted (plan_verdict p) ≡ true → r ≡ opened_state p → Writable r
unfolding opened
writable_new p r h e = rw e (writable (opened p) (sound_opened p h))

-- its state behind an empty log
pub opened_laid : (s zs : List ℕ) (p : Plan) (r : State) → is_accepted (plan_verdict p) ≡ true → r ≡ opened_state p
    → zs ≡ zeros 1599 ++ drop 1599 s → log_part zs ++ state_numbers r ≡ account_numbers (open_answer p).account
opened_laid s zs p r h e f =
    let l : log_part zs ≡ zeros 1599 = ap log_part f ∙ (unfold log_part in take_at (zeros 1599) (drop 1599 s) 1599 (length-zeros 1599)) in
    ap (λ (t : List ℕ). t ++ state_numbers r) l
    ∙ (ap (λ (x : State). zeros 1599 ++ state_numbers x) e ∙ (new_laid p ∙ ap account_numbers (sym (opens p h))))
  where
    new_laid : (p : Plan) → zeros 1599 ++ state_numbers (opened_state p) ≡ account_numbers (opened p)
    new_laid p = unfold account_numbers in unfold opened in refl

-- which plan is granted
plan_in : Plan → Result Plan Refusal → Plan
plan_in q (Ok p) = p
plan_in q (Err n) = q

pub granted_is : (t : Terms) (p : Plan) → plan_of t ≡ Ok p → (verdict_of (terms_reasons t) ≡ (Ok tt)) × (plan_with t ≡ p)
unfolding plan_of plan_in
granted_is t p e = go (verdict_of (terms_reasons t)) refl e
  where
    go : (v : Result ⊤ Refusal) → verdict_of (terms_reasons t) ≡ v → plan_answer v (plan_with t) ≡ Ok p → (verdict_of (terms_reasons t) ≡ (Ok tt)) × (plan_with t ≡ p)
    go (Ok tt) d g = (d, ap (plan_in p) g)
    go (Err n) d g = (cc, cc)

pub declined_is : (t : Terms) (n : Refusal) → plan_of t ≡ Err n → verdict_of (terms_reasons t) ≡ Err n
unfolding plan_of
declined_is t n e = go (verdict_of (terms_reasons t)) refl e
  where
    go : (v : Result ⊤ Refusal) → verdict_of (terms_reasons t) ≡ v → plan_answer v (plan_with t) ≡ Err n → verdict_of (terms_reasons t) ≡ Err n
    go (Ok tt) d g = cc
    go (Err m) d g = d ∙ cc

pub granted_opens : (t : Terms) (p : Plan) → plan_of t ≡ Ok p → is_accepted (plan_verdict p) ≡ true
granted_opens t p e =
    let g = granted_is t p e in
    let v = ap is_accepted g.0 in
    ap (λ (q : Plan). is_accepted (plan_verdict q)) (sym g.1) ∙ (ap is_accepted (sym (known_form t (form_known t v))) ∙ v)

-- Open's cases
pub open_bad : (xs ts : List ℕ) → (length ts ≡ 7 → ⊥) → (1001 ≡ open_code xs ts) × (xs ≡ open_numbers xs ts)
unfolding open_code open_numbers
open_bad xs ts h = (rw (ne_eqb _ _ h) refl, rw (ne_eqb _ _ h) refl)

pub open_0 : (xs ts : List ℕ) → length ts ≡ 7 → (length xs ≡ 1649 → ⊥) → (0 ≡ open_code xs ts) × (xs ≡ open_numbers xs ts)
unfolding open_code open_numbers open_verdict
open_0 xs ts e h = (rw (eq-eqb _ _ e, ne_eqb _ _ h) refl, rw (eq-eqb _ _ e, ne_eqb _ _ h) refl)

pub open_done : (xs ts zs : List ℕ) (p : Plan) → length ts ≡ 7 → length xs ≡ 1649 → plan_of (terms_from ts) ≡ Ok p → zs ≡ account_numbers (open_answer p).account
    → (1000 ≡ open_code xs ts) × (zs ≡ open_numbers xs ts)
unfolding open_code open_numbers open_verdict
open_done xs ts zs p e f g z =
    let k = granted_is (terms_from ts) p g in
    (rw (eq-eqb _ _ e, eq-eqb _ _ f, k.0) refl, rw (eq-eqb _ _ e, eq-eqb _ _ f, k.0) (z ∙ ap (λ (q : Plan). account_numbers (open_answer q).account) (sym k.1)))

pub open_declined : (xs ts : List ℕ) (n : Refusal) → length ts ≡ 7 → length xs ≡ 1649 → plan_of (terms_from ts) ≡ Err n → (refusal_number n ≡ open_code xs ts) × (xs ≡ open_numbers xs ts)
unfolding open_code open_numbers open_verdict
open_declined xs ts n e f g =
    let k = declined_is (terms_from ts) n g in
    (rw (eq-eqb _ _ e, eq-eqb _ _ f, k) refl, rw (eq-eqb _ _ e, eq-eqb _ _ f, k) refl)
