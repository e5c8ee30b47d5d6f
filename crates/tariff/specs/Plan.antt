-- The plan, its ranges and faults (plan-1 to plan-7, fault-1 to fault-4, refusal-1, refusal-2), and the zone data limit
-- that plan or credit give (limit-3 to limit-6). Choices (docs/DECISIONS.md, "Account"): form of a plan; an unused
-- field that is also too large; V of a bundle that is 0; an unknown form with other faults; prices. Assumes nothing.
use Rattle.std.specs.Prelude.{ℕ, ◌*◌, ◌/◌, ◌≤◌, Bool, true, false, not, cond, ◌&&◌, ◌||◌, List, [], ◌∷◌, leb, ltb, eqb, Option, Some, None, Result, Ok, Err, ⊤}
use Rattle.tariff.specs.declared.Form.{Form}
use Rattle.tariff.specs.declared.Form.TheVariants.{Prepaid, Bundle, Unlimited}
use Rattle.tariff.specs.declared.Plan.{Plan}
use Rattle.tariff.specs.declared.Terms.{Terms}
use Rattle.tariff.specs.Tests.{all, between, Reason, because, verdict_of}
use Rattle.tariff.specs.declared.Refusal.{Refusal}
use Rattle.tariff.specs.declared.Refusal.TheVariants.{UnusedField, StartDay, PriceRange, FeeRange}

-- plan-1: the form is prepaid
abbrev pub is_prepaid : Form → Bool
is_prepaid Prepaid = true
is_prepaid Bundle = false
is_prepaid Unlimited = false

-- plan-2, fault-2: no price is over 1,000,000
unfoldable pub prices_in_range : Plan → Bool
prices_in_range p = leb p.pergb 1000000 && leb p.perminute 1000000 && leb p.persms 1000000

-- plan-3, plan-4, fault-3: fee and V, where the form has them, are in range
unfoldable pub terms_in_range : Form → Plan → Bool
terms_in_range Prepaid p = true
terms_in_range Bundle p = leb p.fee 10000000 && between 1 p.volume 1073741824
terms_in_range Unlimited p = leb p.fee 10000000

-- plan-5, refusal-2, caps-3: the start day is in range
abbrev pub start_in_range : Plan → Bool
start_in_range p = between 181 p.start 3833

-- plan-6, fault-1, refusal-1: what the form does not use is 0
unfoldable pub unused_empty : Form → Plan → Bool
unused_empty Prepaid p = eqb p.fee 0 && eqb p.volume 0
unused_empty Bundle p = true
unused_empty Unlimited p = eqb p.pergb 0 && eqb p.volume 0

-- plan-2, plan-3, plan-4, plan-6: a plan within all of these. Law: which plans are accepted is as before 4/13
-- (`PlansAsBefore`)
unfoldable pub plan_in_range : Plan → Bool
plan_in_range p = all (unused_empty p.form p ∷ prices_in_range p ∷ terms_in_range p.form p ∷ [])

-- plan-7, unit-1: the bundle is open
unfoldable pub open_bundle : Form → ℕ → ℕ → ℕ → Bool
open_bundle Prepaid fee cap volume = false
open_bundle Bundle fee cap volume = ltb (fee * 1048576) (cap * volume)
open_bundle Unlimited fee cap volume = true

-- limit-3, limit-4, limit-5, limit-6, limit-7, unit-1: L at opening and, of a bundle, as a month begins
unfoldable pub plan_allowance : Plan → ℕ → Option ℕ
plan_allowance p cap =
    cond (is_prepaid p.form) (Some 0)
    (cond (open_bundle p.form p.fee cap p.volume) (Some (2 * p.fee * 1048576 / cap)) None)

-- register-2, topup-2, limit-3, unit-1, promise-2: the prepaid L that a credit gives
unfoldable pub credit_allowance : ℕ → ℕ → Option ℕ
credit_allowance credit cap = Some (credit * 1048576 / cap)

-- fault-2, fault-3, fault-4, order-4, refusal-2: 17, 18, then 2
unfoldable pub amount_reasons : Plan → List Reason
amount_reasons p =
    because PriceRange (not (prices_in_range p))
    ∷ because FeeRange (not (terms_in_range p.form p))
    ∷ because StartDay (not (start_in_range p))
    ∷ []

-- refusal-1, refusal-2, fault-1, order-4: Open's reasons, an unused field first
unfoldable pub plan_reasons : Plan → List Reason
plan_reasons p = because UnusedField (not (unused_empty p.form p)) ∷ amount_reasons p

-- order-1: Open on a plan
unfoldable pub plan_verdict : Plan → Result ⊤ Refusal
plan_verdict p = verdict_of (plan_reasons p)

-- plan-1, file-7, library-2: the form of a number
unfoldable pub form_of : ℕ → Form
form_of w = cond (eqb w 0) Prepaid (cond (eqb w 1) Bundle Unlimited)

-- file-7, library-2: the number of a form
abbrev pub form_word : Form → ℕ
form_word Prepaid = 0
form_word Bundle = 1
form_word Unlimited = 2

-- file-7: the plan of seven words
abbrev pub plan_with : Terms → Plan
plan_with t = record {
  form = form_of t.form;
  start = t.start;
  pergb = t.pergb;
  perminute = t.perminute;
  persms = t.persms;
  fee = t.fee;
  volume = t.volume;
}

-- fault-1, order-4, refusal-1: the same reasons of words, 1 also for an unknown form
unfoldable pub terms_reasons : Terms → List Reason
terms_reasons t = because UnusedField (ltb 2 t.form || not (unused_empty (form_of t.form) (plan_with t)))
    ∷ amount_reasons (plan_with t)

-- form-8: the plan, or why it is declined
abbrev pub plan_answer : Result ⊤ Refusal → Plan → Result Plan Refusal
plan_answer (Ok tt) p = Ok p
plan_answer (Err r) p = Err r

-- file-7, fault-1, form-8: what a plan body's words answer
unfoldable pub plan_of : Terms → Result Plan Refusal
plan_of t = plan_answer (verdict_of (terms_reasons t)) (plan_with t)

-- aid: what keeps `credit_allowance` within the machine's numbers
pub record CreditFits (credit cap : ℕ) : Type 0 where
  pub money : credit ≤ 1000000000
  pub rate : 1 ≤ cap

-- aid: the same of a bundle's products
pub record BundleFits (fee cap volume : ℕ) : Type 0 where
  pub money : fee ≤ 10000000
  pub rate : 1 ≤ cap
  pub rates : cap ≤ 1000000
  pub kilobytes : volume ≤ 1073741824
