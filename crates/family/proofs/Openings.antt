-- What opening a box answers, by what the plan is refused with and what a pass over the cards found. Assumes nothing.
use Prim.Native.Nat.{◌≤◌, ◌<◌}
use mathlib.Core.Path.{◌≡◌, refl, sym, ◌∙◌}
use mathlib.Core.Bool.{Bool, true, false, not, cond, ◌||◌}
use mathlib.Core.Logic.{◌⊎◌, inl, inr}
use lib.Dec.{ltb, eqb}
use borrow.Author.Tests.{eq-eqb, ne_eqb, lt-ltb, le-ltb}
use Rattle.tariff.specs.declared.Plan.{Plan}
use Rattle.tariff.specs.Tests.{verdict_of, is_accepted}
use Rattle.tariff.specs.Plan.{plan_reasons, plan_verdict}
use Rattle.tariff.proofs.Verdicts.{then, verdict-append}
use Rattle.account.specs.declared.StateOpened.{StateOpened}
use Rattle.account.specs.Whole.{opened}
use Rattle.account.specs.Answers.{no_plan, open_answer, opened_parts}
use Rattle.cards.specs.declared.Survey.{Survey}
use Rattle.family.specs.Seen.{unopened_with, found_reasons, seen_verdict, seen_opened}
use Rattle.std.specs.Prelude.{Result, Ok, Err, ⊤, is_err}
use Rattle.tariff.specs.declared.Refusal.{Refusal}
use Rattle.tariff.specs.declared.Refusal.TheVariants.{CardPlace, CardAllowance}

-- what stands in an account where opening is refused
pub no_plan_state : (opened_parts (open_answer no_plan)).state ≡ (opened no_plan).state
unfolding open_answer
no_plan_state = go (is_accepted (plan_verdict no_plan))
  where
    go : (t : Bool) → (cond t (opened no_plan) (opened no_plan)).state ≡ (opened no_plan).state
    go true = refl
    go false = refl

module _ (p : Plan) (s : Survey) (x : StateOpened) (i : x ≡ opened_parts (open_answer p)) where
  abbrev none_or_many : Bool
  none_or_many = eqb s.count 0 || ltb 16 s.count

  verdict_is : seen_verdict p s ≡ then (plan_verdict p) (cond none_or_many (Err CardPlace) (cond (not s.allowed) (Err CardAllowance) (Ok tt)))
  unfolding seen_verdict plan_verdict found_reasons verdict_of
  verdict_is = verdict-append (plan_reasons p) (found_reasons s)

  -- an answer of opening, with the account that it hands out
  abbrev told : Result ⊤ Refusal → StateOpened
  told v = record { answer = v; state = (cond (is_accepted v) (opened p) (opened no_plan)).state }

  -- what the plan is refused with comes first, then what the cards are
  opening_is : cond (is_err x.answer) x (cond none_or_many (unopened_with CardPlace) (cond (not s.allowed) (unopened_with CardAllowance) x)) ≡ seen_opened p s
  unfolding seen_opened open_answer
  opening_is = rw (i, verdict_is) (go (plan_verdict p) none_or_many s.allowed)
    where
      go : (v : Result ⊤ Refusal) (m a : Bool)
          → cond (is_err v) (told v) (cond m (unopened_with CardPlace) (cond (not a) (unopened_with CardAllowance) (told v)))
          ≡ told (then v (cond m (Err CardPlace) (cond (not a) (Err CardAllowance) (Ok tt))))
      go (Err r) m a = refl
      go (Ok tt) true a = refl
      go (Ok tt) false true = refl
      go (Ok tt) false false = refl

  pub open_no : is_err x.answer ≡ true → x ≡ seen_opened p s
  open_no e = sym (rw e refl) ∙ opening_is

  module _ (e : is_err x.answer ≡ false) where
    pub open_19 : (s.count ≡ 0) ⊎ ((s.count ≡ 0 → ⊥) × 16 < s.count) → unopened_with CardPlace ≡ seen_opened p s
    open_19 (inl h) = sym (rw (e, eq-eqb s.count 0 h) refl) ∙ opening_is
    open_19 (inr h) = sym (rw (e, ne_eqb s.count 0 h.0, lt-ltb 16 s.count h.1) refl) ∙ opening_is

    module _ (f : s.count ≡ 0 → ⊥) (g : s.count ≤ 16) where
      pub open_20 : not s.allowed ≡ true → unopened_with CardAllowance ≡ seen_opened p s
      open_20 h = sym (rw (e, ne_eqb s.count 0 f, le-ltb 16 s.count g, h) refl) ∙ opening_is

      pub open_yes : not s.allowed ≡ false → x ≡ seen_opened p s
      open_yes h = sym (rw (e, ne_eqb s.count 0 f, le-ltb 16 s.count g, h) refl) ∙ opening_is
