-- What the tests of soundness tell, and what makes them pass. Assumes nothing.
use Prim.Native.Nat.{◌+◌, ◌-◌, ◌≤◌, min}
use mathlib.Core.Path.{◌≡◌}
use mathlib.Core.Bool.{true}
use native.Mathlib.Omega.{arith}
use borrow.Author.Tests.{eqb-true, eq-eqb, leb-true, le-leb}
use Rattle.tariff.specs.Tests.{is_accepted}
use Rattle.tariff.specs.Units.{each, ◌⊗◌, AtMost}
use Rattle.tariff.specs.Plan.{plan_verdict}
use Rattle.tariff.specs.Charges.{PriceFits, BasisFits}
use Rattle.tariff.proofs.Tests.{all_nil, all_cons, all_head, all_tail}
use Rattle.tariff.proofs.Sums.{fits_tells, fits_yes}
use Rattle.tariff.proofs.PlanLaws.{Ranged, plan_ranged, opens_tells}
use Rattle.presence.specs.Log.{lifetime_most}
use Rattle.state.specs.declared.State.{State}
use Rattle.state.specs.Sound.{allowance_fits, chargeable, warning_fits, counters_sound, charges_sound}
use Rattle.state.proofs.Adding.{Worked}

-- the counters
pub record Counters (a : State) : Type 0 where
  pub plan_ok : is_accepted (plan_verdict a.plan) ≡ true
  pub started : a.plan.start ≤ a.day
  pub day_ok : a.day ≤ 3833
  pub lifetime_ok : AtMost a.meters.lifetime lifetime_most
  pub charged_ok : a.meters.chargedseconds ≤ 1000000000000
  pub paid_ok : a.money.paid ≤ 1000000000
  pub roamed_ok : a.quota.roamed ≤ a.meters.lifetime.kb
  pub monthly_ok : a.quota.monthly ≤ a.meters.lifetime.kb
  pub billed_ok : AtMost a.meters.billed (chargeable a)
  pub surcharged_ok : AtMost a.meters.surcharged (chargeable a)
  pub basis_ok : AtMost a.meters.basis (each 20000 20000 20000 20000 ⊗ a.meters.surcharged)
  pub allowance_ok : allowance_fits a.quota.allowance ≡ true
  pub logged_ok : a.logged ≡ min 123 (a.day - a.plan.start)
  pub internet_ok : warning_fits a.services.internet ≡ true
  pub calls_ok : warning_fits a.services.calls ≡ true
  pub messages_ok : warning_fits a.services.messages ≡ true

pub counters_tell : (a : State) → counters_sound a ≡ true → Counters a
unfolding counters_sound
counters_tell a e =
    let e1 = all_tail _ _ e in
    let e2 = all_tail _ _ e1 in
    let e3 = all_tail _ _ e2 in
    let e4 = all_tail _ _ e3 in
    let e5 = all_tail _ _ e4 in
    let e6 = all_tail _ _ e5 in
    let e7 = all_tail _ _ e6 in
    let e8 = all_tail _ _ e7 in
    let e9 = all_tail _ _ e8 in
    let e10 = all_tail _ _ e9 in
    let e11 = all_tail _ _ e10 in
    let e12 = all_tail _ _ e11 in
    let e13 = all_tail _ _ e12 in
    let e14 = all_tail _ _ e13 in
    let e15 = all_tail _ _ e14 in
    record {
      plan_ok = all_head _ _ e;
      started = leb-true _ _ (all_head _ _ e1);
      day_ok = leb-true _ _ (all_head _ _ e2);
      lifetime_ok = fits_tells _ _ (all_head _ _ e3);
      charged_ok = leb-true _ _ (all_head _ _ e4);
      paid_ok = leb-true _ _ (all_head _ _ e5);
      roamed_ok = leb-true _ _ (all_head _ _ e6);
      monthly_ok = leb-true _ _ (all_head _ _ e7);
      billed_ok = fits_tells _ _ (all_head _ _ e8);
      surcharged_ok = fits_tells _ _ (all_head _ _ e9);
      basis_ok = fits_tells _ _ (all_head _ _ e10);
      allowance_ok = all_head _ _ e11;
      logged_ok = eqb-true _ _ (all_head _ _ e12);
      internet_ok = all_head _ _ e13;
      calls_ok = all_head _ _ e14;
      messages_ok = all_head _ _ e15;
    }

pub counters_pass : (a : State) → Counters a → counters_sound a ≡ true
unfolding counters_sound
counters_pass a s =
    all_cons _ _ s.plan_ok
    (all_cons _ _ (le-leb _ _ s.started)
    (all_cons _ _ (le-leb _ _ s.day_ok)
    (all_cons _ _ (fits_yes _ _ s.lifetime_ok)
    (all_cons _ _ (le-leb _ _ s.charged_ok)
    (all_cons _ _ (le-leb _ _ s.paid_ok)
    (all_cons _ _ (le-leb _ _ s.roamed_ok)
    (all_cons _ _ (le-leb _ _ s.monthly_ok)
    (all_cons _ _ (fits_yes _ _ s.billed_ok)
    (all_cons _ _ (fits_yes _ _ s.surcharged_ok)
    (all_cons _ _ (fits_yes _ _ s.basis_ok)
    (all_cons _ _ s.allowance_ok
    (all_cons _ _ (eq-eqb _ _ s.logged_ok)
    (all_cons _ _ s.internet_ok
    (all_cons _ _ s.calls_ok
    (all_cons _ _ s.messages_ok all_nil)))))))))))))))

-- the charges and the balance
pub record Balanced (a : State) : Type 0 where
  pub worked : Worked a
  pub balance : a.money.paid ≡ a.money.credit + a.money.homecharges + a.money.surcharges

pub charges_tell : (a : State) → charges_sound a ≡ true → Balanced a
unfolding charges_sound
charges_tell a e = record {
  worked = record { home_is = eqb-true _ _ (all_head _ _ e); extra_is = eqb-true _ _ (all_head _ _ (all_tail _ _ e)) };
  balance = eqb-true _ _ (all_head _ _ (all_tail _ _ (all_tail _ _ e)));
}

pub charges_pass : (a : State) → Balanced a → charges_sound a ≡ true
unfolding charges_sound
charges_pass a s =
    all_cons _ _ (eq-eqb _ _ s.worked.home_is)
    (all_cons _ _ (eq-eqb _ _ s.worked.extra_is)
    (all_cons _ _ (eq-eqb _ _ s.balance) all_nil))

-- the plan's ranges, and the amounts that charges are worked out from
pub plan_of_state : (a : State) → Counters a → Ranged a.plan
plan_of_state a f = plan_ranged a.plan (opens_tells a.plan f.plan_ok).ranges

pub billed_held : (a : State) → Counters a → PriceFits a.plan a.meters.billed
billed_held a f = omega (arith, plan_of_state a f, f.billed_ok, f.lifetime_ok, f.charged_ok)

pub basis_held : (a : State) → Counters a → BasisFits a.meters.basis
basis_held a f = omega (arith, f.basis_ok, f.surcharged_ok, f.lifetime_ok, f.charged_ok)
