-- After every list of calls the account holds what the journal's entries come to. Assumes nothing.
use Prim.Native.Nat.{ℕ, zero, suc, ◌+◌, ◌-◌, ◌≤◌, min, max}
use mathlib.Core.Path.{◌≡◌, refl, sym, ◌∙◌, ap, ap₂, subst}
use mathlib.Core.Bool.{Bool, true, false, cond, ◌&&◌}
use mathlib.Core.List.{List, [], ◌∷◌}
use native.Mathlib.Nat.{add-zero, sub_self}
use native.Mathlib.Numerals.{add-one}
use native.Mathlib.Omega.{arith}
use lib.Dec.{eqb, ltb}
use lib.ListN.{length, take, drop}
use lib.Seq.{take_all}
use borrow.Author.Tests.{eq-eqb, ltb-true, ltb-false}
use Rattle.calendar.specs.Calendar.{month_of}
use Rattle.tariff.specs.declared.Units.{Units}
use Rattle.tariff.specs.declared.Kind.{Kind}
use Rattle.tariff.specs.declared.Kind.TheVariants.{Data, Outgoing, Incoming, Sms}
use Rattle.tariff.specs.declared.Place.{Place}
use Rattle.tariff.specs.declared.Place.TheVariants.{Home, Zone, Elsewhere}
use Rattle.tariff.specs.declared.Form.{Form}
use Rattle.tariff.specs.declared.Form.TheVariants.{Prepaid}
use Rattle.tariff.specs.declared.Plan.{Plan}
use Rattle.tariff.specs.Units.{each, zero_units, only}
use Rattle.tariff.specs.Plan.{is_prepaid, plan_allowance}
use Rattle.tariff.specs.Caps.{built_in, caps_on}
use Rattle.tariff.specs.Charges.{counted_kb, home_charges_of, surcharges_of}
use Rattle.presence.specs.declared.Day.{Day}
use Rattle.presence.specs.Day.{in_zone, empty_day, mark_day, add_day, joined}
use Rattle.presence.specs.Log.{days_of, days_first}
use Rattle.presence.specs.Service.{services_after}
use Rattle.presence.proofs.Numbers.{days_joined, days_empty}
use Rattle.state.specs.Use.{charged_as, charged_units, billable, roaming, billed_after, newly_surcharged, basis_after, cost, spent}
use Rattle.state.specs.Moves.{all_clear, opened_state, enters, registered, renews, topped, turns_month, next_state_of}
use Rattle.state.proofs.Adding.{Worked, spent_worked, home_grows, extra_grows}
use Rattle.account.specs.declared.Account.{Account}
use Rattle.account.specs.declared.Call.{Call}
use Rattle.account.specs.declared.Call.TheVariants.{Register, Use, TopUp, NextDay, Afford}
use Rattle.account.specs.Whole.{opened, spend, register_at, top_up_by, day_after}
use Rattle.account.specs.Calls.{accepts, after, step}
use Rattle.account.proofs.Kept.{Sound, within_credit}
use Rattle.machine.specs.Machine as machine
use Rattle.ledger.specs.Lists.{run, units_of, amount_of, marks}
use Rattle.ledger.specs.Journal.{Entry, Journal, Opening, new_opening, opening_of, month_before, mark_at, units_at, new_journal, place_after, day_next, enter, answered, write, paid_in, charged_of, home_part, zone_part, monthly_kb, billed_units, journal_home, last_place, at_place, comes_in, sets_allowance, changes_month, zone_of_month, zone_since, journal_roamed, marked_on, used_on, day_of, days, last_days, journal_services, new_allowance, journal_allowance, journal_basis, journal_surcharges}
use Rattle.ledger.specs.Demand3.{Shown, entries_of}
use Rattle.ledger.proofs.Quiet.{of_month_same, billed_quiet, basis_quiet, monthly_quiet, roamed_quiet}
use Rattle.ledger.proofs.Months.{Upto, nil, cons, upto_suc, monthly_next, roamed_next, turns_is}
use Rattle.ledger.proofs.Days.{log_skip, services_skip, day_none, day_use, day_register, day_quiet, joined_last}
use Rattle.std.specs.Prelude.{Option, Some, None}

-- the entry that an accepted call adds
abbrev entry : Account → Call → Entry
entry a c = record { call = c; day = a.state.day; place = place_after a.state.place c }

-- the opening under the account's plan, which no call changes
abbrev under : Opening → Account → Opening
under o a = record {
  plan = a.state.plan;
  day = o.day;
  place = o.place;
  paid = o.paid;
  billed = o.billed;
  basis = o.basis;
  monthly = o.monthly;
  roamed = o.roamed;
  allowance = o.allowance;
  today = o.today;
  days = o.days;
  logged = o.logged;
  services = o.services;
}

-- the days from the opening to today
abbrev past_days : Opening → Account → ℕ
past_days o a = a.state.day - o.day

-- the account holds what the opening and the entries come to
record Agrees (o : Opening) (a : Account) (is : List Entry) : Type 0 where
  place_last : last_place (under o a) is ≡ a.state.place
  started : o.day ≤ a.state.day
  upto : Upto a.state.day is
  paid_is : a.state.money.paid ≡ paid_in (under o a) is
  billed_is : a.state.meters.billed ≡ billed_units (under o a) is
  basis_is : a.state.meters.basis ≡ journal_basis (under o a) is
  monthly_is : a.state.quota.monthly ≡ monthly_kb (under o a) a.state.day is
  roamed_is : a.state.quota.roamed ≡ journal_roamed (under o a) a.state.day is
  allowance_is : a.state.quota.allowance ≡ journal_allowance (under o a) is
  today_is : a.state.today ≡ day_of (under o a) a.state.day is
  log_is : days_of a.log ≡ last_days (under o a) (days (under o a) (past_days o a) is)
  logged_is : a.state.logged ≡ min 123 (o.logged + past_days o a)
  services_is : a.state.services ≡ journal_services (under o a) (past_days o a) is
  worked : Worked a.state
  balance : a.state.money.paid ≡ a.state.money.credit + a.state.money.homecharges + a.state.money.surcharges

-- the days before today, and the services, with one more entry of today
module _ (o : Opening) (a : Account) (i : Entry) (is : List Entry) (e : i.day ≡ a.state.day) (g : Agrees o a is) where
  log_step : days_of a.log ≡ last_days (under o a) (days (under o a) (past_days o a) (i ∷ is))
  log_step = rw (log_skip (under o a) (past_days o a) i is (omega (arith, g.started))) g.log_is

  services_step : a.state.services ≡ journal_services (under o a) (past_days o a) (i ∷ is)
  services_step = rw (services_skip (under o a) (past_days o a) i is (omega (arith, g.started))) g.services_is

-- home charges and surcharges as the journal has them
home_is_shown : (o : Opening) (a : Account) (is : List Entry) → Agrees o a is → a.state.money.homecharges ≡ journal_home (under o a) is
unfolding journal_home
home_is_shown o a is g = g.worked.home_is ∙ ap (home_charges_of a.state.plan) g.billed_is

extra_is_shown : (o : Opening) (a : Account) (is : List Entry) → Agrees o a is → a.state.money.surcharges ≡ surcharges_of (journal_basis (under o a) is)
extra_is_shown o a is g = g.worked.extra_is ∙ ap surcharges_of g.basis_is

-- the credit after an entry without units is paid in less both charges
credit_next : (o : Opening) (a : Account) (i : Entry) (is : List Entry) → ((w : Option Place) → charged_of w i.call ≡ zero_units) → Agrees o a is
    → a.state.money.credit + amount_of i.call ≡ paid_in (under o a) (i ∷ is) - (journal_home (under o a) (i ∷ is) + surcharges_of (journal_basis (under o a) is))
unfolding paid_in
credit_next o a i is e g =
    let h : journal_home (under o a) (i ∷ is) ≡ journal_home (under o a) is = unfold journal_home in ap (home_charges_of a.state.plan) (billed_quiet i is e (under o a)) in
    omega (arith, g.balance, g.paid_is, home_is_shown o a is g, extra_is_shown o a is g)

-- the account's tests for an entry into the zone and for a top-up there are the journal's
enters_is : (f : Form) (w : Option Place) (q : Place) → enters f w q ≡ is_prepaid f && comes_in w q
unfolding enters comes_in at_place
enters_is f None Home = refl
enters_is f None Zone = refl
enters_is f None Elsewhere = refl
enters_is f (Some Home) Home = refl
enters_is f (Some Home) Zone = refl
enters_is f (Some Home) Elsewhere = refl
enters_is f (Some Zone) Home = refl
enters_is f (Some Zone) Zone = refl
enters_is f (Some Zone) Elsewhere = refl
enters_is f (Some Elsewhere) Home = refl
enters_is f (Some Elsewhere) Zone = refl
enters_is f (Some Elsewhere) Elsewhere = refl

zone_is : (w : Option Place) → in_zone w ≡ at_place Zone w
unfolding at_place
zone_is None = refl
zone_is (Some Home) = refl
zone_is (Some Zone) = refl
zone_is (Some Elsewhere) = refl

renews_is : (f : Form) (w : Option Place) → renews f w ≡ is_prepaid f && at_place Zone w
unfolding renews
renews_is f w = ap (λ (b : Bool). is_prepaid f && b) (zone_is w)

agrees_register : (o : Opening) (a : Account) (q : Place) (is : List Entry) → Agrees o a is → Agrees o (register_at a q) (entry a (Register q) ∷ is)
unfolding register_at last_place place_after units_of charged_of paid_in amount_of journal_allowance new_allowance sets_allowance changes_month registered
agrees_register o a q is g =
    let t : enters a.state.plan.form a.state.place q ≡ is_prepaid a.state.plan.form && comes_in a.state.place q = enters_is a.state.plan.form a.state.place q in
    let i : Entry = entry a (Register q) in
    let r : journal_roamed (under o a) a.state.day (i ∷ is) ≡ cond (is_prepaid a.state.plan.form && comes_in (last_place (under o a) is) q) 0 (journal_roamed (under o a) a.state.day is) = roamed_quiet i is (λ w. refl) (under o a) a.state.day in
    let c : a.state.money.credit + 0 ≡ paid_in (under o a) (i ∷ is) - (journal_home (under o a) (i ∷ is) + surcharges_of (journal_basis (under o a) is)) = credit_next o a i is (λ w. refl) g in
    let z : a.state.money.credit + 0 ≡ a.state.money.credit = add-zero _ in
    record {
      place_last = refl;
      started = g.started;
      upto = cons {i = i} (omega arith) g.upto;
      paid_is = omega (arith, g.paid_is);
      billed_is = g.billed_is ∙ sym (billed_quiet i is (λ w. refl) _);
      basis_is = g.basis_is ∙ sym (basis_quiet i is (λ w. refl) _);
      monthly_is = g.monthly_is ∙ sym (monthly_quiet i is (λ w. refl) _ _);
      roamed_is = cc;
      allowance_is = cc;
      today_is = ap (mark_day (Some q)) g.today_is ∙ day_register (under o a) is a.state.day q;
      log_is = log_step o a i is refl g;
      logged_is = g.logged_is;
      services_is = services_step o a i is refl g;
      worked = record { home_is = g.worked.home_is; extra_is = g.worked.extra_is };
      balance = g.balance;
    }

agrees_top_up : (o : Opening) (a : Account) (n : ℕ) (is : List Entry) → Agrees o a is → Agrees o (top_up_by a n) (entry a (TopUp n) ∷ is)
unfolding top_up_by last_place place_after units_of charged_of paid_in amount_of journal_allowance new_allowance sets_allowance changes_month marks topped
agrees_top_up o a n is g =
    let i : Entry = entry a (TopUp n) in
    let t : renews a.state.plan.form a.state.place ≡ is_prepaid a.state.plan.form && at_place Zone a.state.place = renews_is a.state.plan.form a.state.place in
    let r : journal_roamed (under o a) a.state.day (i ∷ is) ≡ cond (is_prepaid a.state.plan.form && at_place Zone (last_place (under o a) is)) 0 (journal_roamed (under o a) a.state.day is) = roamed_quiet i is (λ w. refl) (under o a) a.state.day in
    let c : a.state.money.credit + n ≡ paid_in (under o a) (i ∷ is) - (journal_home (under o a) (i ∷ is) + surcharges_of (journal_basis (under o a) is)) = credit_next o a i is (λ w. refl) g in
    record {
      place_last = refl;
      started = g.started;
      upto = cons {i = i} (omega arith) g.upto;
      paid_is = omega (arith, g.paid_is);
      billed_is = g.billed_is ∙ sym (billed_quiet i is (λ w. refl) _);
      basis_is = g.basis_is ∙ sym (basis_quiet i is (λ w. refl) _);
      monthly_is = g.monthly_is ∙ sym (monthly_quiet i is (λ w. refl) _ _);
      roamed_is = cc;
      allowance_is = cc;
      today_is = g.today_is ∙ day_quiet (under o a) is a.state.day (TopUp n) a.state.place refl refl;
      log_is = log_step o a i is refl g;
      logged_is = g.logged_is;
      services_is = services_step o a i is refl g;
      worked = record { home_is = g.worked.home_is; extra_is = g.worked.extra_is };
      balance = omega (arith, g.balance);
    }

agrees_afford : (o : Opening) (a : Account) (k : Kind) (is : List Entry) → Agrees o a is → Agrees o a (entry a (Afford k) ∷ is)
unfolding last_place place_after units_of charged_of paid_in amount_of journal_allowance new_allowance sets_allowance changes_month marks
agrees_afford o a k is g =
    let i : Entry = entry a (Afford k) in
    record {
      place_last = refl;
      started = g.started;
      upto = cons {i = i} (omega arith) g.upto;
      paid_is = omega (arith, g.paid_is);
      billed_is = g.billed_is ∙ sym (billed_quiet i is (λ w. refl) _);
      basis_is = g.basis_is ∙ sym (basis_quiet i is (λ w. refl) _);
      monthly_is = g.monthly_is ∙ sym (monthly_quiet i is (λ w. refl) _ _);
      roamed_is = g.roamed_is ∙ sym (roamed_quiet i is (λ w. refl) (under o a) a.state.day);
      allowance_is = g.allowance_is;
      today_is = g.today_is ∙ day_quiet (under o a) is a.state.day (Afford k) a.state.place refl refl;
      log_is = log_step o a i is refl g;
      logged_is = g.logged_is;
      services_is = services_step o a i is refl g;
      worked = g.worked;
      balance = g.balance;
    }

-- the log with today, the days logged and the services on the next day
module _ (o : Opening) (a : Account) (is : List Entry) (g : Agrees o a is) where
  log_next : joined a.state.today (days_of a.log) ≡ last_days (under o a) (days (under o a) (suc (past_days o a)) (entry a NextDay ∷ is))
  unfolding days marks units_of place_after
  log_next =
      let i : Entry = entry a NextDay in
      let s : o.day + past_days o a ≡ a.state.day = omega (arith, g.started) in
      let l : joined a.state.today (days_of a.log) ≡ last_days (under o a) (day_of (under o a) a.state.day (i ∷ is) ∷ days (under o a) (past_days o a) (i ∷ is)) =
      ap₂ joined (g.today_is ∙ day_quiet (under o a) is a.state.day NextDay a.state.place refl refl) (log_step o a i is refl g)
      ∙ joined_last (under o a) (day_of (under o a) a.state.day (i ∷ is)) (days (under o a) (past_days o a) (i ∷ is)) in
      rw s l

  logged_next : min 123 (a.state.logged + 1) ≡ min 123 (o.logged + suc (past_days o a))
  logged_next = omega (arith, g.logged_is)

  services_next : services_after (min 123 (a.state.logged + 1)) (joined a.state.today (days_of a.log)) a.state.services
      ≡ journal_services (under o a) (suc (past_days o a)) (entry a NextDay ∷ is)
  unfolding journal_services
  services_next = rw (logged_next, log_next) (ap (services_after _ _) (services_step o a (entry a NextDay) is refl g))

agrees_next : (o : Opening) (a : Account) (is : List Entry) → Agrees o a is → Agrees o (day_after a) (entry a NextDay ∷ is)
unfolding day_after last_place place_after units_of charged_of paid_in amount_of journal_allowance new_allowance sets_allowance next_state_of
agrees_next o a is g =
    let i : Entry = entry a NextDay in
    let d : a.state.day + 1 ≡ suc a.state.day = add-one a.state.day in
    let m : monthly_kb (under o a) (suc a.state.day) (i ∷ is) ≡ cond (turns_month a.state.plan (suc a.state.day)) 0 (monthly_kb (under o a) a.state.day is) = monthly_quiet i is (λ w. refl) _ _ ∙ monthly_next (under o a) _ is g.started g.upto in
    let r : journal_roamed (under o a) (suc a.state.day) (i ∷ is) ≡ cond (turns_month a.state.plan (suc a.state.day)) 0 (journal_roamed (under o a) a.state.day is) = roamed_quiet i is (λ w. refl) _ _ ∙ roamed_next (under o a) _ is g.started g.upto in
    let t : turns_month a.state.plan (suc a.state.day) ≡ changes_month a.state.plan a.state.day NextDay = turns_is a.state.plan a.state.day in
    let k : suc a.state.day - o.day ≡ suc (past_days o a) = omega (arith, g.started) in
    rw d (record {
      place_last = refl;
      started = omega (arith, g.started);
      upto = cons {i = i} (omega arith) (upto_suc g.upto);
      paid_is = omega (arith, g.paid_is);
      billed_is = g.billed_is ∙ sym (billed_quiet i is (λ w. refl) _);
      basis_is = g.basis_is ∙ sym (basis_quiet i is (λ w. refl) _);
      monthly_is = cc;
      roamed_is = cc;
      allowance_is = cc;
      today_is = sym (day_none (under o a) a.state.day (i ∷ is) g.started (cons {i = i} (omega arith) g.upto));
      log_is = rw (k, days_joined a.state.today a.log) (log_next o a is g);
      logged_is = rw k (logged_next o a is g);
      services_is = rw k (services_next o a is g);
      worked = record { home_is = g.worked.home_is; extra_is = g.worked.extra_is };
      balance = g.balance;
    })

roamed_use : (o : Opening) (i : Entry) (is : List Entry) → sets_allowance Prepaid (last_place o is) i.call ≡ false
    → journal_roamed o i.day (i ∷ is) ≡ journal_roamed o i.day is + (zone_part i).kb
unfolding journal_roamed zone_since zone_of_month
roamed_use o i is e = go (is_prepaid o.plan.form) refl
  where
    go : (b : Bool) → is_prepaid o.plan.form ≡ b → journal_roamed o i.day (i ∷ is) ≡ journal_roamed o i.day is + (zone_part i).kb
    go true f = rw (f, e)
    go false f = rw (f, of_month_same i (zone_part i).kb)

-- what the account charges a record as is what the journal charges it as
at_least_30 : (b : Bool) (n : ℕ) → ltb n 30 ≡ b → max n 30 ≡ cond b 30 n
at_least_30 true n e = omega (arith, ltb-true n 30 e)
at_least_30 false n e = omega (arith, ltb-false n 30 e)

seconds_shown : (w : Option Place) (n : ℕ) → cond (in_zone w) (max n 30) n ≡ cond (at_place Zone w && ltb n 30) 30 n
unfolding at_place
seconds_shown None n = refl
seconds_shown (Some Home) n = refl
seconds_shown (Some Zone) n = at_least_30 (ltb n 30) n refl
seconds_shown (Some Elsewhere) n = refl

charged_shown : (w : Option Place) (k : Kind) (n : ℕ) → charged_units w k n ≡ charged_of w (Use k n)
unfolding charged_units charged_as charged_of
charged_shown w Data n = refl
charged_shown w Outgoing n = ap (λ (x : ℕ). each 0 x 0 0) (seconds_shown w n)
charged_shown w Incoming n = refl
charged_shown w Sms n = refl

agrees_use : (o : Opening) (a : Account) (k : Kind) (n : ℕ) (is : List Entry) → cost a.state (charged_units a.state.place k n) ≤ a.state.money.credit → Agrees o a is
    → Agrees o (spend a (only k n) (charged_units a.state.place k n)) (entry a (Use k n) ∷ is)
unfolding spend last_place place_after units_of paid_in amount_of journal_allowance new_allowance sets_allowance changes_month billed_units billed_after journal_basis basis_after newly_surcharged home_part zone_part monthly_kb cost spent
agrees_use o a k n is h g =
    let i : Entry = entry a (Use k n) in
    let c : Units = charged_units a.state.place k n in
    let q : charged_units a.state.place k n ≡ charged_of a.state.place (Use k n) = charged_shown a.state.place k n in
    record {
      place_last = refl;
      started = g.started;
      upto = cons {i = i} (omega arith) g.upto;
      paid_is = omega (arith, g.paid_is);
      billed_is = cc;
      basis_is = cc;
      monthly_is = ap₂ ◌+◌ g.monthly_is (ap (λ (x : Units). counted_kb a.state.plan.form (billable a.state.place x).kb) q ∙ sym (of_month_same i _));
      roamed_is = ap₂ ◌+◌ g.roamed_is (ap (λ (x : Units). (roaming a.state.place x).kb) q) ∙ sym (roamed_use (under o a) i is refl);
      allowance_is = g.allowance_is;
      today_is = ap (λ (d : Day). add_day a.state.place (only k n) (mark_day a.state.place d)) g.today_is ∙ day_use (under o a) is a.state.day k n a.state.place;
      log_is = log_step o a i is refl g;
      logged_is = g.logged_is;
      services_is = services_step o a i is refl g;
      worked = spent_worked a.state (only k n) c (only k n) c;
      balance = omega (arith, h, g.balance, home_grows a.state c g.worked, extra_grows a.state c g.worked);
    }

agrees_after : (o : Opening) (a : Account) (c : Call) (is : List Entry) → accepts a c ≡ true → Agrees o a is → Agrees o (after a c) (entry a c ∷ is)
unfolding after
agrees_after o a (Register q) is e g = agrees_register o a q is g
agrees_after o a (Use k n) is e g = agrees_use o a k n is (within_credit a k n e) g
agrees_after o a (TopUp n) is e g = agrees_top_up o a n is g
agrees_after o a NextDay is e g = agrees_next o a is g
agrees_after o a (Afford k) is e g = agrees_afford o a k is g

-- the journal that has the entries, where the account stands
journal_at : Account → List Entry → Journal
journal_at a is = record { entries = is; day = a.state.day; place = a.state.place }

enter_after : (a : Account) (c : Call) (is : List Entry) → enter (journal_at a is) c ≡ journal_at (after a c) (entry a c ∷ is)
unfolding journal_at enter after day_next place_after register_at spend top_up_by day_after registered spent topped next_state_of
enter_after a (Register q) is = refl
enter_after a (Use k n) is = refl
enter_after a (TopUp n) is = refl
enter_after a NextDay is = λ j. record { entries = entry a NextDay ∷ is; day = sym (add-one a.state.day) j; place = a.state.place }
enter_after a (Afford k) is = refl

run_yes : (a : Account) (c : Call) (cs : List Call) → accepts a c ≡ true → run a (c ∷ cs) ≡ run (after a c) cs
unfolding machine.run machine.step
run_yes a c cs e = rw e

run_no : (a : Account) (c : Call) (cs : List Call) → accepts a c ≡ false → run a (c ∷ cs) ≡ run a cs
unfolding machine.run machine.step
run_no a c cs e = rw e

write_yes : (j : Journal) (a : Account) (c : Call) (cs : List Call) → accepts a c ≡ true → write j (answered a (c ∷ cs)) ≡ write (enter j c) (answered (after a c) cs)
unfolding answered write step
write_yes j a c cs e = rw e

write_no : (j : Journal) (a : Account) (c : Call) (cs : List Call) → accepts a c ≡ false → write j (answered a (c ∷ cs)) ≡ write j (answered a cs)
unfolding answered write step
write_no j a c cs e = rw e

written : (o : Opening) (a : Account) (is : List Entry) (cs : List Call) → Agrees o a is → Agrees o (run a cs) (write (journal_at a is) (answered a cs)).entries
unfolding machine.run answered write journal_at
written o a is [] g = g
written o a is (c ∷ cs) g = go (accepts a c) refl (λ b js h. written o b js cs h)
  where
    go : (b : Bool) → accepts a c ≡ b → ((x : Account) (js : List Entry) → Agrees o x js → Agrees o (run x cs) (write (journal_at x js) (answered x cs)).entries)
        → Agrees o (run a (c ∷ cs)) (write (journal_at a is) (answered a (c ∷ cs))).entries
    go true e ih = rw (run_yes a c cs e, write_yes (journal_at a is) a c cs e, enter_after a c is) (ih (after a c) (entry a c ∷ is) (agrees_after o a c is e g))
    go false e ih = rw (run_no a c cs e, write_no (journal_at a is) a c cs e) (ih a is g)

plan_after : (o : Opening) (a : Account) (c : Call) → under o (after a c) ≡ under o a
unfolding after register_at spend top_up_by day_after registered spent topped next_state_of
plan_after o a (Register q) = refl
plan_after o a (Use k n) = refl
plan_after o a (TopUp n) = refl
plan_after o a NextDay = refl
plan_after o a (Afford k) = refl

plan_run : (o : Opening) (a : Account) (cs : List Call) → under o (run a cs) ≡ under o a
unfolding machine.run machine.step step
plan_run o a [] = refl
plan_run o a (c ∷ cs) = plan_run o (step a c) cs ∙ go (accepts a c)
  where
    go : (b : Bool) → under o (cond b (after a c) a) ≡ under o a
    go true = plan_after o a c
    go false = refl

-- the 123 days of a log
days-length : (n : ℕ) (xs : List ℕ) → length (days_first n xs) ≡ n
unfolding days_first
days-length zero xs = refl
days-length (suc n) xs = ap suc (days-length n (drop 13 xs))

days_whole : (xs : List ℕ) → take 123 (days_of xs) ≡ days_of xs
unfolding days_of
days_whole xs = take_all 123 (days_first 123 xs) (omega (arith, days-length 123 xs))

-- before the first item a sound account holds its own fields
same_month : (p b : Bool) (n : ℕ) → b ≡ true → n ≡ cond p n (cond b n 0)
same_month true b n e = refl
same_month false b n e = rw e refl

agrees_start : (a : Account) → Sound a → Agrees (opening_of a) a []
unfolding last_place paid_in billed_units journal_basis monthly_kb month_before journal_roamed zone_since zone_of_month journal_allowance day_of marked_on used_on mark_at units_at days last_days journal_services opening_of
agrees_start a s =
    let d = a.state.day in
    let m : eqb (month_of d) (month_of d) ≡ true = eq-eqb (month_of d) (month_of d) refl in
    let z : d - d ≡ 0 = sub_self d in
    record {
      place_last = refl;
      started = omega arith;
      upto = nil;
      paid_is = refl;
      billed_is = refl;
      basis_is = refl;
      monthly_is = same_month (is_prepaid a.state.plan.form) _ a.state.quota.monthly m;
      roamed_is = same_month (is_prepaid a.state.plan.form) _ a.state.quota.roamed m;
      allowance_is = refl;
      today_is = rw (eq-eqb d d refl) refl;
      log_is = rw z (sym (days_whole a.log));
      logged_is = omega (arith, s.counters.logged_ok);
      services_is = rw z refl;
      worked = s.money.worked;
      balance = s.money.balance;
    }

shown : (o : Opening) (a : Account) (is : List Entry) → Agrees o a is → Shown (under o a) a is
unfolding journal_surcharges
shown o a is g = record {
  paid_shown = g.paid_is;
  home_shown = home_is_shown o a is g;
  surcharges_shown = extra_is_shown o a is g;
  credit_shown = omega (arith, g.balance, g.paid_is, home_is_shown o a is g, extra_is_shown o a is g);
  balance = g.balance;
}

under_own : (a : Account) → under (opening_of a) a ≡ opening_of a
unfolding opening_of
under_own a = refl

-- after every list of calls on a sound account, with whose fields the book begins
pub balanced : (a : Account) (cs : List Call) → Sound a → Shown (opening_of a) (run a cs) (entries_of (opening_of a) a cs)
unfolding entries_of
balanced a cs s =
    let o = opening_of a in
    subst (λ (x : Opening). Shown x (run a cs) (write (new_journal o) (answered a cs)).entries) (plan_run o a cs ∙ under_own a)
    (shown o (run a cs) _ (unfold journal_at new_journal opening_of in written o a [] cs (agrees_start a s)))

-- the fields of a new account are those that the book of one begins with
pub opening_new : (p : Plan) → opening_of (opened p) ≡ new_opening p
unfolding opening_of new_opening opened opened_state
opening_new p = λ j. record {
  plan = p;
  day = p.start;
  place = None;
  paid = 0;
  billed = zero_units;
  basis = zero_units;
  monthly = 0;
  roamed = 0;
  allowance = plan_allowance p (caps_on built_in p.start).kb;
  today = empty_day;
  days = days_empty j;
  logged = 0;
  services = all_clear;
}
