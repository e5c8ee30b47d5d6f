-- The plans accepted with 02, 4/13 are those of 01. Assumes nothing.
use mathlib.Core.Path.{◌≡◌, refl}
use mathlib.Core.Bool.{Bool, true, false, not, cond, ◌&&◌}
use lib.Dec.{leb, ltb}
use borrow.Author.Tests.{ltb-true, ltb-false, le-leb, lt-leb}
use Rattle.tariff.specs.declared.Plan.{Plan}
use Rattle.tariff.specs.declared.Terms.{Terms}
use Rattle.tariff.specs.Tests.{all, verdict_of, is_accepted}
use Rattle.tariff.specs.Plan.{unused_empty, prices_in_range, terms_in_range, plan_in_range, start_in_range, amount_reasons, plan_reasons, plan_verdict, plan_with, terms_reasons}
use Rattle.tariff.specs.Faults.{base_verdict, base_terms_verdict, told_as_1, PlansAsBefore}
use Rattle.tariff.proofs.PlanLaws.{by_tests, accepted_in_range, known_form}
use Rattle.std.specs.Prelude.{Ok, Err}
use Rattle.tariff.specs.declared.Refusal.TheVariants.{UnusedField, StartDay}

told : (p : Plan) → told_as_1 (plan_verdict p) ≡ base_verdict p
unfolding base_verdict plan_verdict plan_reasons amount_reasons plan_in_range all verdict_of
told p = go (unused_empty p.form p) (prices_in_range p) (terms_in_range p.form p) (start_in_range p)
  where
    go : (u v w d : Bool) → told_as_1 (by_tests u v w d) ≡ cond (not (u && v && w)) (Err UnusedField) (cond (not d) (Err StartDay) (Ok tt))
    go false v w d = refl
    go true false w d = refl
    go true true false d = refl
    go true true true false = refl
    go true true true true = refl

-- words of an unknown form are declined with 1
unknown_form : (t : Terms) → ltb 2 t.form ≡ true → verdict_of (terms_reasons t) ≡ Err UnusedField
unfolding terms_reasons verdict_of
unknown_form t h = rw h refl

accepted_words : (t : Terms) → is_accepted (verdict_of (terms_reasons t)) ≡ leb t.form 2 && (plan_in_range (plan_with t) && start_in_range (plan_with t))
accepted_words t = go (ltb 2 t.form) refl
  where
    go : (b : Bool) → ltb 2 t.form ≡ b → is_accepted (verdict_of (terms_reasons t)) ≡ leb t.form 2 && (plan_in_range (plan_with t) && start_in_range (plan_with t))
    go true h = rw (unknown_form t h, lt-leb t.form 2 (ltb-true _ _ h)) refl
    go false h = rw (known_form t (ltb-false _ _ h), le-leb t.form 2 (ltb-false _ _ h)) (accepted_in_range (plan_with t))

told_words : (t : Terms) → told_as_1 (verdict_of (terms_reasons t)) ≡ base_terms_verdict t
unfolding base_terms_verdict
told_words t = go (ltb 2 t.form) refl
  where
    go : (b : Bool) → ltb 2 t.form ≡ b → told_as_1 (verdict_of (terms_reasons t)) ≡ cond (ltb 2 t.form) (Err UnusedField) (base_verdict (plan_with t))
    go true h = rw (unknown_form t h, h) refl
    go false h = rw (known_form t (ltb-false _ _ h), h) (told (plan_with t))

pub plans_as_before : PlansAsBefore
plans_as_before = record { accepted = accepted_in_range; accepted_words = accepted_words; told = told; told_words = told_words }
