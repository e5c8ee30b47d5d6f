-- An account as Open returns it is sound, and every accepted call keeps a sound account sound; uses add up. Assumes nothing.
use Prim.Native.Nat.{ℕ, ◌+◌, ◌*◌, ◌/◌, ◌≤◌, ◌<◌}
use mathlib.Core.Path.{◌≡◌, refl}
use mathlib.Core.Bool.{Bool, true, false, cond, ◌&&◌}
use mathlib.Core.List.{List}
use native.Mathlib.Omega.{arith}
use native.Mathlib.Numerals.{add-one}
use lib.Dec.{leb, ltb}
use borrow.Author.Tests.{leb-false, ltb-true, ltb-false, le-leb}
use Rattle.tariff.specs.declared.Units.{Units}
use Rattle.tariff.specs.declared.Kind.{Kind}
use Rattle.tariff.specs.declared.Place.{Place}
use Rattle.tariff.specs.declared.Plan.{Plan}
use Rattle.tariff.specs.Tests.{all, between, verdict_of, is_accepted}
use Rattle.tariff.specs.Units.{◌⊕◌, only, AtMost}
use Rattle.tariff.specs.Caps.{built_in, caps_on}
use Rattle.tariff.specs.Charges.{home_charges_of, surcharges_of}
use Rattle.tariff.specs.Plan.{is_prepaid, open_bundle, plan_verdict, credit_allowance, plan_allowance, amount_reasons, plan_reasons, unused_empty, prices_in_range, terms_in_range}
use Rattle.tariff.proofs.Tests.{all_nil, all_cons, first_fails, rest_accepts, not-false}
use Rattle.tariff.proofs.CapLaws.{basis_grows}
use Rattle.tariff.proofs.Tables.{caps_bound}
use Rattle.tariff.proofs.PlanLaws.{plan_ranged, opens_tells, credit_bounded, fee_bounded}
use Rattle.tariff.proofs.ChargeLaws.{counted_bounded}
use Rattle.presence.specs.declared.Service.{Service}
use Rattle.presence.specs.declared.ServiceState.{ServiceState}
use Rattle.presence.specs.declared.ServiceState.TheVariants.{Clear, Warned, Surcharged}
use Rattle.presence.specs.declared.Day.{Day}
use Rattle.presence.specs.Log.{days_of, lifetime_most}
use Rattle.presence.specs.Window.{prevalent_long, prevalent_short}
use Rattle.presence.specs.Service.{state_step, next_state, services_after}
use Rattle.presence.proofs.Marks.{day_use_bounded, day_mark_bounded}
use Rattle.presence.proofs.Logs.{over_joined, blank_joined, over_empty, blank_empty}
use Rattle.presence.proofs.Numbers.{days_joined, days_empty, marks_joined, marks_empty}
use Rattle.state.specs.Use.{charged_units, with_seconds, billable, roaming, billed_after, newly_surcharged, basis_after, cost, spent}
use Rattle.state.specs.Moves.{opened_state, enters, registered, renews, topped, turns_month, next_state_of}
use Rattle.state.specs.Sound.{allowance_fits, warning_fits, counters_sound}
use Rattle.state.specs.Reasons.{use_reasons, top_up_reasons, next_day_reasons}
use Rattle.state.proofs.Adding.{Worked, spent_worked, spent_adds, home_grows, extra_grows}
use Rattle.state.proofs.Verdicts.{Room, has_room, room_only}
use Rattle.state.proofs.Bounds.{charged_kinds, billable_bounded, roaming_bounded, billed_of_bounded, newly_bounded}
use Rattle.state.proofs.Soundness.{Counters, counters_tell, counters_pass, Balanced, charges_tell, charges_pass, plan_of_state}
use Rattle.account.specs.declared.Account.{Account}
use Rattle.account.specs.declared.Call.{Call}
use Rattle.account.specs.declared.Call.TheVariants.{Register, Use, TopUp, NextDay, Afford}
use Rattle.account.specs.Whole.{sound, opened, spend, register_at, top_up_by, day_after}
use Rattle.account.specs.Answers.{no_plan}
use Rattle.account.specs.Calls.{own_reasons, reasons, verdict, accepts, after, step}
use Rattle.account.proofs.Parts.{Logged, log_passes, has_counters, has_charges, has_log}
use Rattle.std.specs.Prelude.{Option, Some, None}

-- soundness as facts
pub record Sound (a : Account) : Type 0 where
  pub counters : Counters a.state
  pub money : Balanced a.state
  pub days : Logged a.log a.state.today a.state.logged a.state.meters.lifetime

pub sound_tells : (a : Account) → sound a ≡ true → Sound a
sound_tells a s = record { counters = counters_tell a.state (has_counters a s); money = charges_tell a.state (has_charges a s); days = has_log a s }

pub sound_passes : (a : Account) → Sound a → sound a ≡ true
unfolding sound
sound_passes a s =
    all_cons _ _ (counters_pass a.state s.counters)
    (all_cons _ _ (charges_pass a.state s.money) (all_cons _ _ (log_passes _ _ _ _ s.days) all_nil))

-- limits and warnings stay in their ranges
credit_fits : (credit cap : ℕ) → credit ≤ 1000000000 → allowance_fits (credit_allowance credit cap) ≡ true
unfolding credit_allowance
credit_fits credit cap h = le-leb _ _ (credit_bounded credit cap h)

plan_fits : (p : Plan) (cap : ℕ) → p.fee ≤ 10000000 → allowance_fits (plan_allowance p cap) ≡ true
unfolding plan_allowance
plan_fits p cap h = go (is_prepaid p.form) (open_bundle p.form p.fee cap p.volume)
  where
    go : (b c : Bool) → allowance_fits (cond b (Some 0) (cond c (Some (2 * p.fee * 1048576 / cap)) None)) ≡ true
    go true c = refl
    go false true = le-leb _ _ (fee_bounded p.fee cap h)
    go false false = refl

step_fits : (full long short : Bool) (s : ServiceState) → warning_fits (state_step full long short s) ≡ true
step_fits full long short Clear = go (full && long)
  where
    go : (b : Bool) → warning_fits (cond b (Warned 0) Clear) ≡ true
    go true = refl
    go false = refl
step_fits full long short (Warned k) = go (ltb k 14) refl short
  where
    go : (b : Bool) → ltb k 14 ≡ b → (c : Bool) → warning_fits (cond b (Warned (k + 1)) (cond c Surcharged Clear)) ≡ true
    go true e c = le-leb (k + 1) 14 (omega (arith, ltb-true k 14 e))
    go false e true = refl
    go false e false = refl
step_fits full long short Surcharged = go long
  where
    go : (b : Bool) → warning_fits (cond b Surcharged Clear) ≡ true
    go true = refl
    go false = refl

next_fits : (s : Service) (n : ℕ) (ds : List Day) (state : ServiceState) → warning_fits (next_state s n ds state) ≡ true
unfolding next_state
next_fits s n ds state = step_fits (leb 123 n) (prevalent_long s n ds) (prevalent_short s n ds) state

either_bounded : (b : Bool) (m n : ℕ) → m ≤ n → cond b 0 m ≤ n
either_bounded true m n h = omega arith
either_bounded false m n h = h

either_fits : (b : Bool) (l m : Option ℕ) → allowance_fits l ≡ true → allowance_fits m ≡ true → allowance_fits (cond b l m) ≡ true
either_fits true l m e f = e
either_fits false l m e f = f

sound_register : (a : Account) (q : Place) → Sound a → Sound (register_at a q)
unfolding register_at registered
sound_register a q s =
    let f = s.counters in
    let e = enters a.state.plan.form a.state.place q in
    record {
      counters = record {
        plan_ok = f.plan_ok;
        started = f.started;
        day_ok = f.day_ok;
        lifetime_ok = f.lifetime_ok;
        charged_ok = f.charged_ok;
        paid_ok = f.paid_ok;
        roamed_ok = either_bounded e a.state.quota.roamed a.state.meters.lifetime.kb f.roamed_ok;
        monthly_ok = f.monthly_ok;
        billed_ok = f.billed_ok;
        surcharged_ok = f.surcharged_ok;
        basis_ok = f.basis_ok;
        allowance_ok = either_fits e _ a.state.quota.allowance (credit_fits a.state.money.credit (caps_on built_in a.state.day).kb (omega (arith, s.money.balance, f.paid_ok))) f.allowance_ok;
        logged_ok = f.logged_ok;
        internet_ok = f.internet_ok;
        calls_ok = f.calls_ok;
        messages_ok = f.messages_ok;
      };
      money = record { worked = record { home_is = s.money.worked.home_is; extra_is = s.money.worked.extra_is }; balance = s.money.balance };
      days = record { days_ok = omega (arith, s.days.days_ok, day_mark_bounded (Some q) a.state.today); rest_ok = s.days.rest_ok; marks_ok = s.days.marks_ok };
    }

sound_top_up : (a : Account) (n : ℕ) → a.state.money.paid + n ≤ 1000000000 → Sound a → Sound (top_up_by a n)
unfolding top_up_by topped
sound_top_up a n h s =
    let f = s.counters in
    let e = renews a.state.plan.form a.state.place in
    record {
      counters = record {
        plan_ok = f.plan_ok;
        started = f.started;
        day_ok = f.day_ok;
        lifetime_ok = f.lifetime_ok;
        charged_ok = f.charged_ok;
        paid_ok = h;
        roamed_ok = either_bounded e a.state.quota.roamed a.state.meters.lifetime.kb f.roamed_ok;
        monthly_ok = f.monthly_ok;
        billed_ok = f.billed_ok;
        surcharged_ok = f.surcharged_ok;
        basis_ok = f.basis_ok;
        allowance_ok = either_fits e _ a.state.quota.allowance (credit_fits (a.state.money.credit + n) (caps_on built_in a.state.day).kb (omega (arith, s.money.balance))) f.allowance_ok;
        logged_ok = f.logged_ok;
        internet_ok = f.internet_ok;
        calls_ok = f.calls_ok;
        messages_ok = f.messages_ok;
      };
      money = record { worked = record { home_is = s.money.worked.home_is; extra_is = s.money.worked.extra_is }; balance = omega (arith, s.money.balance) };
      days = record { days_ok = s.days.days_ok; rest_ok = s.days.rest_ok; marks_ok = s.days.marks_ok };
    }

sound_next : (a : Account) → a.state.day < 3833 → Sound a → Sound (day_after a)
unfolding day_after next_state_of services_after
sound_next a h s =
    let f = s.counters in
    let e = turns_month a.state.plan (a.state.day + 1) in
    let k : a.state.logged ≤ 123 = omega (arith, f.logged_ok) in
    record {
      counters = record {
        plan_ok = f.plan_ok;
        started = omega (arith, f.started);
        day_ok = omega arith;
        lifetime_ok = f.lifetime_ok;
        charged_ok = f.charged_ok;
        paid_ok = f.paid_ok;
        roamed_ok = either_bounded e a.state.quota.roamed a.state.meters.lifetime.kb f.roamed_ok;
        monthly_ok = either_bounded e a.state.quota.monthly a.state.meters.lifetime.kb f.monthly_ok;
        billed_ok = f.billed_ok;
        surcharged_ok = f.surcharged_ok;
        basis_ok = f.basis_ok;
        allowance_ok = either_fits e _ a.state.quota.allowance (plan_fits a.state.plan (caps_on built_in (a.state.day + 1)).kb (plan_of_state a.state f).money) f.allowance_ok;
        logged_ok = omega (arith, f.logged_ok, f.started);
        internet_ok = next_fits _ _ _ a.state.services.internet;
        calls_ok = next_fits _ _ _ a.state.services.calls;
        messages_ok = next_fits _ _ _ a.state.services.messages;
      };
      money = record { worked = record { home_is = s.money.worked.home_is; extra_is = s.money.worked.extra_is }; balance = s.money.balance };
      days = record {
        days_ok = rw (add-one a.state.logged, days_joined a.state.today a.log) (omega (arith, s.days.days_ok, over_joined a.state.logged a.state.today (days_of a.log) k));
        rest_ok = rw (add-one a.state.logged, days_joined a.state.today a.log) (blank_joined a.state.logged a.state.today (days_of a.log) k s.days.rest_ok);
        marks_ok = marks_joined a.state.today a.log s.days.marks_ok;
      };
    }

-- a spend of u units charged as c, which differ from u in outgoing seconds at most
sound_spend : (a : Account) (u c : Units) → AtMost (a.state.meters.lifetime ⊕ u) lifetime_most → a.state.meters.chargedseconds + c.outgoing ≤ 1000000000000
    → AtMost c (with_seconds u c.outgoing) → cost a.state c ≤ a.state.money.credit → Sound a → Sound (spend a u c)
unfolding spend cost spent
sound_spend a u c l t q h s =
    let f = s.counters in
    let b : AtMost (billable a.state.place c) c = billable_bounded a.state.place c in
    let r : AtMost (roaming a.state.place c) c = roaming_bounded a.state.place c in
    let w = s.money.worked in
    record {
      counters = record {
        plan_ok = f.plan_ok;
        started = f.started;
        day_ok = f.day_ok;
        lifetime_ok = l;
        charged_ok = t;
        paid_ok = f.paid_ok;
        roamed_ok = omega (arith, r, q, f.roamed_ok);
        monthly_ok = omega (arith, b, q, f.monthly_ok, counted_bounded a.state.plan.form (billable a.state.place c).kb);
        billed_ok = unfold billed_after in omega (arith, f.billed_ok, b, q, billed_of_bounded a.state.plan a.state.quota.monthly (billable a.state.place c));
        surcharged_ok = omega (arith, f.surcharged_ok, q, newly_bounded a.state c);
        basis_ok = unfold basis_after in basis_grows 20000 a.state.meters.basis (caps_on built_in a.state.day) a.state.meters.surcharged (newly_surcharged a.state c) f.basis_ok (caps_bound a.state.day).most;
        allowance_ok = f.allowance_ok;
        logged_ok = f.logged_ok;
        internet_ok = f.internet_ok;
        calls_ok = f.calls_ok;
        messages_ok = f.messages_ok;
      };
      money = record { worked = spent_worked a.state u c u c; balance = omega (arith, h, s.money.balance, home_grows a.state c w, extra_grows a.state c w) };
      days = record { days_ok = omega (arith, s.days.days_ok, day_use_bounded a.state.place u a.state.today); rest_ok = s.days.rest_ok; marks_ok = s.days.marks_ok };
    }

sound_use : (a : Account) (k : Kind) (n : ℕ) → Room a.state k n → cost a.state (charged_units a.state.place k n) ≤ a.state.money.credit
    → Sound a → Sound (spend a (only k n) (charged_units a.state.place k n))
sound_use a k n r h s =
    sound_spend a (only k n) (charged_units a.state.place k n) (room_only a.state.meters.lifetime k n s.counters.lifetime_ok r.units) r.seconds (charged_kinds a.state.place k n) h s

-- what acceptance tells of a use, a top-up and a day change
within_limits : (a : Account) (k : Kind) (n : ℕ) → accepts a (Use k n) ≡ true → Room a.state k n
unfolding accepts verdict reasons own_reasons use_reasons
within_limits a k n e = has_room _ _ _ (first_fails _ _ (rest_accepts _ _ (rest_accepts _ _ (rest_accepts _ _ e))))

pub within_credit : (a : Account) (k : Kind) (n : ℕ) → accepts a (Use k n) ≡ true → cost a.state (charged_units a.state.place k n) ≤ a.state.money.credit
unfolding accepts verdict reasons own_reasons use_reasons
within_credit a k n e = ltb-false _ _ (first_fails _ _ (rest_accepts _ _ (rest_accepts _ _ (rest_accepts _ _ (rest_accepts _ _ e)))))

pub some_units : (a : Account) (k : Kind) (n : ℕ) → accepts a (Use k n) ≡ true → between 1 n 1000000000 ≡ true
unfolding accepts verdict reasons own_reasons use_reasons
some_units a k n e = not-false (between 1 n 1000000000) (first_fails _ _ (rest_accepts _ _ (rest_accepts _ _ e)))

-- every accepted call keeps the account sound
pub sound_after : (a : Account) (c : Call) → accepts a c ≡ true → Sound a → Sound (after a c)
unfolding after accepts verdict reasons own_reasons use_reasons top_up_reasons next_day_reasons
sound_after a (Register q) e s = sound_register a q s
sound_after a (Use k n) e s = sound_use a k n (within_limits a k n e) (within_credit a k n e) s
sound_after a (TopUp n) e s = sound_top_up a n (ltb-false _ _ (first_fails _ _ (rest_accepts _ _ (rest_accepts _ _ e)))) s
sound_after a NextDay e s = sound_next a (leb-false _ _ (first_fails _ _ (rest_accepts _ _ e))) s
sound_after a (Afford k) e s = s

pub sound_step : (a : Account) (c : Call) → Sound a → Sound (step a c)
unfolding step
sound_step a c s = go (accepts a c) refl
  where
    go : (b : Bool) → accepts a c ≡ b → Sound (cond b (after a c) a)
    go true e = sound_after a c e s
    go false e = s

pub worked_none : (p : Plan) → Worked (opened_state p)
unfolding opened_state home_charges_of surcharges_of
worked_none p = record { home_is = nothing p.pergb p.perminute p.persms; extra_is = refl }
  where
    nothing : (x y z : ℕ) → 0 ≡ x * 0 / 1048576 + y * 0 / 60 + z * 0
    nothing x y z = omega arith

pub sound_opened : (p : Plan) → is_accepted (plan_verdict p) ≡ true → Sound (opened p)
unfolding opened opened_state
sound_opened p e =
    let o = opens_tells p e in
    record {
      counters = record {
        plan_ok = e;
        started = omega arith;
        day_ok = o.late;
        lifetime_ok = omega arith;
        charged_ok = omega arith;
        paid_ok = omega arith;
        roamed_ok = omega arith;
        monthly_ok = omega arith;
        billed_ok = omega arith;
        surcharged_ok = omega arith;
        basis_ok = omega arith;
        allowance_ok = plan_fits p (caps_on built_in p.start).kb (plan_ranged p o.ranges).money;
        logged_ok = omega arith;
        internet_ok = refl;
        calls_ok = refl;
        messages_ok = refl;
      };
      money = record { worked = worked_none p; balance = refl };
      days = record { days_ok = rw (days_empty, over_empty 0 123) (omega arith); rest_ok = rw days_empty (blank_empty 123); marks_ok = marks_empty };
    }

-- two uses, one after the other, are one use of their sum
pub spend_adds : (a : Account) (u c v d : Units) → Worked a.state → spend (spend a u c) v d ≡ spend a (u ⊕ v) (c ⊕ d)
unfolding spend
spend_adds a u c v d w = λ i. record { state = spent_adds a.state u c v d w i; log = a.log }

-- the account that a refused Open hands back is not sound
pub no_plan_unsound : sound (opened no_plan) ≡ false
unfolding sound opened opened_state counters_sound all plan_verdict plan_reasons amount_reasons verdict_of unused_empty prices_in_range terms_in_range
no_plan_unsound = refl
