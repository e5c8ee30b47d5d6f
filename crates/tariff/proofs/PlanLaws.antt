-- What a plan in its ranges tells. Assumes nothing.
use Prim.Native.Nat.{ℕ, ◌*◌, ◌/◌, ◌≤◌}
use mathlib.Core.Path.{◌≡◌, refl, sym, ◌∙◌}
use mathlib.Core.Bool.{Bool, true, false, not, cond, ◌&&◌, ◌||◌}
use native.Mathlib.Omega.{arith}
use native.Mathlib.Nat.{div-le_self, le_trans}
use lib.Dec.{leb, ltb, eqb}
use borrow.Author.Tests.{leb-true, eqb-true, ltb-false, le-ltb}
use Rattle.tariff.specs.declared.Form.{Form}
use Rattle.tariff.specs.declared.Form.TheVariants.{Prepaid, Bundle, Unlimited}
use Rattle.tariff.specs.declared.Plan.{Plan}
use Rattle.tariff.specs.declared.Terms.{Terms}
use Rattle.tariff.specs.Tests.{all, between, verdict_of, is_accepted}
use Rattle.tariff.specs.Plan.{unused_empty, prices_in_range, terms_in_range, plan_in_range, start_in_range, amount_reasons, plan_reasons, plan_verdict, plan_with, terms_reasons}
use Rattle.tariff.proofs.Tests.{and_left, and_right, all_head, all_tail, first_fails}
use Rattle.std.specs.Prelude.{Result, Ok, Err, ⊤}
use Rattle.tariff.specs.declared.Refusal.{Refusal}
use Rattle.tariff.specs.declared.Refusal.TheVariants.{UnusedField, StartDay, PriceRange, FeeRange}

-- the plan's prices, fee and volume are bounded
pub record Ranged (p : Plan) : Type 0 where
  pub gigabyte : p.pergb ≤ 1000000
  pub minute : p.perminute ≤ 1000000
  pub message : p.persms ≤ 1000000
  pub money : p.fee ≤ 10000000
  pub kilobytes : p.volume ≤ 1073741824

record Priced (p : Plan) : Type 0 where
  gigabyte : p.pergb ≤ 1000000
  minute : p.perminute ≤ 1000000
  message : p.persms ≤ 1000000

record Paid (p : Plan) : Type 0 where
  money : p.fee ≤ 10000000
  kilobytes : p.volume ≤ 1073741824

priced : (p : Plan) → prices_in_range p ≡ true → Priced p
unfolding prices_in_range
priced p e =
    let g = leb p.pergb 1000000 in
    let m = leb p.perminute 1000000 in
    let t = leb p.persms 1000000 in
    let e2 = and_left (g && m) t e in
    record {
      gigabyte = leb-true _ _ (and_left g m e2);
      minute = leb-true _ _ (and_right g m e2);
      message = leb-true _ _ (and_right (g && m) t e);
    }

paid : (f : Form) (p : Plan) → unused_empty f p ≡ true → terms_in_range f p ≡ true → Paid p
unfolding unused_empty terms_in_range
paid Prepaid p u e = omega (arith, eqb-true p.fee 0 (and_left (eqb p.fee 0) (eqb p.volume 0) u), eqb-true p.volume 0 (and_right (eqb p.fee 0) (eqb p.volume 0) u))
paid Bundle p u e =
    let v = between 1 p.volume 1073741824 in
    let l = leb 1 p.volume in
    omega (arith, leb-true p.fee 10000000 (and_left (leb p.fee 10000000) v e), leb-true p.volume 1073741824 (and_right l (leb p.volume 1073741824) (and_right (leb p.fee 10000000) v e)))
paid Unlimited p u e = omega (arith, leb-true p.fee 10000000 e, eqb-true p.volume 0 (and_right (eqb p.pergb 0) (eqb p.volume 0) u))

pub plan_ranged : (p : Plan) → plan_in_range p ≡ true → Ranged p
unfolding plan_in_range
plan_ranged p e =
    let e1 = all_tail _ _ e in
    let q = priced p (all_head _ _ e1) in
    let r = paid p.form p (all_head _ _ e) (all_head _ _ (all_tail _ _ e1)) in
    record { gigabyte = q.gigabyte; minute = q.minute; message = q.message; money = r.money; kilobytes = r.kilobytes }

-- the verdict by the four tests of a plan
abbrev pub by_tests : Bool → Bool → Bool → Bool → Result ⊤ Refusal
by_tests u v w d = cond (not u) (Err UnusedField) (cond (not v) (Err PriceRange) (cond (not w) (Err FeeRange) (cond (not d) (Err StartDay) (Ok tt))))

-- a plan is accepted exactly in its ranges, and on a start day in its own
pub accepted_in_range : (p : Plan) → is_accepted (plan_verdict p) ≡ plan_in_range p && start_in_range p
unfolding plan_verdict plan_reasons amount_reasons plan_in_range all verdict_of
accepted_in_range p = go (unused_empty p.form p) (prices_in_range p) (terms_in_range p.form p) (start_in_range p)
  where
    go : (u v w d : Bool) → is_accepted (by_tests u v w d) ≡ u && v && w && d
    go false v w d = refl
    go true false w d = refl
    go true true false d = refl
    go true true true false = refl
    go true true true true = refl

-- what an accepted plan tells
pub record Opens (p : Plan) : Type 0 where
  pub ranges : plan_in_range p ≡ true
  pub early : 181 ≤ p.start
  pub late : p.start ≤ 3833

pub opens_tells : (p : Plan) → is_accepted (plan_verdict p) ≡ true → Opens p
opens_tells p h =
    let e = sym (accepted_in_range p) ∙ h in
    let s = and_right (plan_in_range p) (start_in_range p) e in
    let l = leb 181 p.start in
    record {
      ranges = and_left (plan_in_range p) (start_in_range p) e;
      early = leb-true _ _ (and_left l (leb p.start 3833) s);
      late = leb-true _ _ (and_right l (leb p.start 3833) s);
    }

-- a plan body's words of a known form are judged as their plan is
pub known_form : (t : Terms) → t.form ≤ 2 → verdict_of (terms_reasons t) ≡ plan_verdict (plan_with t)
unfolding terms_reasons plan_verdict plan_reasons verdict_of
known_form t h = rw (le-ltb 2 t.form h) refl

-- accepted words are of a known form
pub form_known : (t : Terms) → is_accepted (verdict_of (terms_reasons t)) ≡ true → t.form ≤ 2
unfolding terms_reasons
form_known t h = ltb-false 2 t.form (or_left (ltb 2 t.form) _ (first_fails _ _ h))
  where
    or_left : (s u : Bool) → (s || u) ≡ false → s ≡ false
    or_left true u e = e
    or_left false u e = refl

-- no allowance is past 2,000,000,000,000,000 kB
pub credit_bounded : (credit cap : ℕ) → credit ≤ 1000000000 → credit * 1048576 / cap ≤ 2000000000000000
credit_bounded credit cap h = le_trans (div-le_self (credit * 1048576) cap) (omega arith)

pub fee_bounded : (fee cap : ℕ) → fee ≤ 10000000 → 2 * fee * 1048576 / cap ≤ 2000000000000000
fee_bounded fee cap h = le_trans (div-le_self (2 * fee * 1048576) cap) (omega arith)
