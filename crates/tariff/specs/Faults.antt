-- That request 4/13 changed numbers and not which plans are accepted (fault-4). The choice that matters
-- (docs/DECISIONS.md, "Account"): the plan in a sound account. Assumes nothing.
use Rattle.std.specs.Prelude.{◌≡◌, not, cond, ◌&&◌, ◌||◌, [], ◌∷◌, leb, ltb, eqb, Result, Ok, Err, ⊤}
use Rattle.tariff.specs.declared.Plan.{Plan}
use Rattle.tariff.specs.declared.Terms.{Terms}
use Rattle.tariff.specs.Tests.{because, verdict_of, is_accepted}
use Rattle.tariff.specs.Plan.{plan_in_range, start_in_range, plan_verdict, plan_with, terms_reasons}
use Rattle.tariff.specs.Refusal.{refusal_number}
use Rattle.tariff.specs.declared.Refusal.{Refusal}
use Rattle.tariff.specs.declared.Refusal.TheVariants.{UnusedField, StartDay}

-- fault-4, order-4: Open before 4/13, with 1 and 2 alone
unfoldable pub base_verdict : Plan → Result ⊤ Refusal
base_verdict p = verdict_of (because UnusedField (not (plan_in_range p)) ∷ because StartDay (not (start_in_range p)) ∷ [])

-- fault-4: the same of words, 1 also for an unknown form
unfoldable pub base_terms_verdict : Terms → Result ⊤ Refusal
base_terms_verdict t = cond (ltb 2 t.form) (Err UnusedField) (base_verdict (plan_with t))

-- fault-4: 17 and 18 told as 1
abbrev pub told_as_1 : Result ⊤ Refusal → Result ⊤ Refusal
told_as_1 (Ok tt) = Ok tt
told_as_1 (Err r) = Err (cond (eqb (refusal_number r) 17 || eqb (refusal_number r) 18) UnusedField r)

-- fault-4: the plans accepted, and every verdict with 17 and 18 told as 1, are as before
pub record PlansAsBefore : Type 0 where
  pub accepted : (p : Plan) → is_accepted (plan_verdict p) ≡ plan_in_range p && start_in_range p
  pub accepted_words : (t : Terms) → is_accepted (verdict_of (terms_reasons t))
      ≡ leb t.form 2 && (plan_in_range (plan_with t) && start_in_range (plan_with t))
  pub told : (p : Plan) → told_as_1 (plan_verdict p) ≡ base_verdict p
  pub told_words : (t : Terms) → told_as_1 (verdict_of (terms_reasons t)) ≡ base_terms_verdict t
