-- The lists of specs/Example: every call is accepted. Of the first two the accounts at the end are equal and the stretches differ; of the others the units
-- of the stretches are equal and the accounts differ. Assumes nothing.
use Prim.Native.Nat.{ℕ, ◌+◌, max}
use mathlib.Core.Path.{◌≡◌, refl, sym, ◌∙◌, ap, subst}
use mathlib.Core.Bool.{true}
use mathlib.Core.List.{List, [], ◌∷◌}
use native.Mathlib.Omega.{arith}
use lib.ListN.{get_or}
use Rattle.tariff.specs.declared.Kind.{Kind}
use Rattle.tariff.specs.declared.Kind.TheVariants.{Data, Outgoing}
use Rattle.tariff.specs.declared.Place.{Place}
use Rattle.tariff.specs.declared.Place.TheVariants.{Home, Zone}
use Rattle.tariff.specs.Units.{each, zero_units}
use Rattle.tariff.specs.Tests.{verdict_of, is_accepted}
use Rattle.tariff.specs.Caps.{table_of, built_in, row_at, first_rows, rows_of, caps_from, caps_on}
use Rattle.tariff.specs.Plan.{plan_verdict, plan_reasons, amount_reasons, unused_empty, prices_in_range, terms_in_range, plan_allowance, open_bundle}
use Rattle.tariff.specs.Charges.{after_first, billed_kb, after_allowance, home_charges_of, surcharges_of}
use Rattle.presence.specs.Day.{mark_day, add_day}
use Rattle.state.specs.Moves.{opened_state, enters, registered}
use Rattle.state.specs.Reasons.{overfills, use_reasons}
use Rattle.state.specs.Use.{charged_as, charged_units, billable, roaming, billed_of, surcharged_of, surcharged_units, billed_after, newly_surcharged, basis_after, home_after, extra_after, cost, spent}
use Rattle.account.specs.declared.Account.{Account}
use Rattle.account.specs.declared.Call.{Call}
use Rattle.account.specs.declared.Call.TheVariants.{Register, Use}
use Rattle.account.specs.Whole.{opened, register_at, spend}
use Rattle.account.specs.Calls.{own_reasons, reasons, verdict, accepts, after, step}
use Rattle.account.specs.Answers.{open_answer}
use Rattle.account.proofs.Kept.{Sound, sound_passes, sound_step, sound_opened}
use Rattle.machine.specs.Machine.{Event, accepted, boundaries, first_segment, later_segments, segments, cuts, stretches}
use Rattle.machine.specs.Machine as machine
use Rattle.ledger.specs.Lists.{run, is_boundary, units_of, Taken, taken, none_taken, account_calls}
use Rattle.ledger.specs.Demand3.{OpensAs}
use Rattle.ledger.specs.Example.{free_plan, used_between, used_after, EndIsNotEnough, units_alone, UnitsAreNotEnough}

-- ---- three accepted calls from a sound account

step_is : (a : Account) (c : Call) → accepts a c ≡ true → step a c ≡ after a c
unfolding step
step_is a c e = rw e refl

sound_after : (a : Account) (c : Call) → Sound a → accepts a c ≡ true → Sound (after a c)
sound_after a c s e = subst Sound (step_is a c e) (sound_step a c s)

abbrev event : Account → Call → Event account_calls
event a c = record { call = c; units = taken a c }

module _ (a : Account) (c d e : Call) (p : accepts a c ≡ true) (q : accepts (after a c) d ≡ true) (r : accepts (after (after a c) d) e ≡ true) where
  run_three : run a (c ∷ d ∷ e ∷ []) ≡ after (after (after a c) d) e
  unfolding machine.run machine.step step
  run_three = rw (step_is a c p, step_is (after a c) d q, step_is (after (after a c) d) e r) refl

  all_three : accepted account_calls a (c ∷ d ∷ e ∷ []) ≡ event a c ∷ event (after a c) d ∷ event (after (after a c) d) e ∷ []
  unfolding accepted machine.step
  all_three = rw (p, q, r) refl

-- ---- the calls of both lists

registers : (a : Account) (p : Place) → Sound a → accepts a (Register p) ≡ true
unfolding accepts verdict reasons own_reasons verdict_of
registers a p s = rw (sound_passes a s) refl

uses : (a : Account) (k : Kind) (n : ℕ) → Sound a → is_accepted (verdict_of (use_reasons a.state k n)) ≡ true → accepts a (Use k n) ≡ true
unfolding accepts verdict reasons own_reasons verdict_of
uses a k n s e = rw (sound_passes a s) e

abbrev start : Account
start = opened free_plan

abbrev here : Account
here = after start (Register Home)

abbrev again : Account
again = after here (Register Home)

plan_taken : is_accepted (plan_verdict free_plan) ≡ true
unfolding plan_verdict plan_reasons amount_reasons verdict_of unused_empty prices_in_range terms_in_range
plan_taken = refl

sound_start : Sound start
sound_start = sound_opened free_plan plan_taken

first : accepts start (Register Home) ≡ true
first = registers start Home sound_start

sound_here : Sound here
sound_here = sound_after start (Register Home) sound_start first

-- a kB at home is free under the plan
free_here : is_accepted (verdict_of (use_reasons here.state Data 1)) ≡ true
unfolding verdict_of use_reasons overfills charged_units charged_as cost home_after extra_after billed_after basis_after newly_surcharged billable roaming billed_of surcharged_units surcharged_of billed_kb after_allowance after_first home_charges_of surcharges_of after register_at registered opened opened_state enters plan_allowance open_bundle caps_on caps_from rows_of first_rows row_at built_in table_of
free_here = refl

-- registering again at home leaves the account as it is
same_place : here ≡ again
unfolding after register_at registered opened opened_state enters mark_day
same_place = refl

used : accepts here (Use Data 1) ≡ true
used = uses here Data 1 sound_here free_here

back : accepts (after here (Use Data 1)) (Register Home) ≡ true
back = registers (after here (Use Data 1)) Home (sound_after here (Use Data 1) sound_here used)

second : accepts here (Register Home) ≡ true
second = registers here Home sound_here

last : accepts again (Use Data 1) ≡ true
last = uses again Data 1 (sound_after here (Register Home) sound_here second) (subst (λ (x : Account). is_accepted (verdict_of (use_reasons x.state Data 1)) ≡ true) same_place free_here)

-- ---- cuts, ends and stretches

same_ends : run start used_between ≡ run start used_after
unfolding after register_at registered enters mark_day add_day spend spent cost home_after extra_after billed_after basis_after newly_surcharged opened opened_state
same_ends =
    run_three start (Register Home) (Use Data 1) (Register Home) first used back
    ∙ sym (run_three start (Register Home) (Register Home) (Use Data 1) first second last)

between_is : accepted account_calls start used_between ≡ event start (Register Home) ∷ event here (Use Data 1) ∷ event (after here (Use Data 1)) (Register Home) ∷ []
between_is = all_three start (Register Home) (Use Data 1) (Register Home) first used back

after_is : accepted account_calls start used_after ≡ event start (Register Home) ∷ event here (Register Home) ∷ event again (Use Data 1) ∷ []
after_is = all_three start (Register Home) (Register Home) (Use Data 1) first second last

same_cuts : cuts account_calls start used_between ≡ cuts account_calls start used_after
unfolding boundaries is_boundary
same_cuts = rw (between_is, after_is) refl

-- the kB of the second stretch
second_kb : List Taken → ℕ
second_kb ts = (get_or ts 1 none_taken).units.kb

one : second_kb (stretches account_calls start used_between) ≡ 1
unfolding second_kb segments first_segment later_segments is_boundary units_of
one = rw between_is refl

none : second_kb (stretches account_calls start used_after) ≡ 0
unfolding second_kb segments first_segment later_segments is_boundary units_of
none = rw after_is refl

opens : OpensAs free_plan start
unfolding open_answer plan_verdict plan_reasons amount_reasons verdict_of unused_empty prices_in_range terms_in_range
opens = refl

pub end_is_not_enough : EndIsNotEnough
end_is_not_enough = record {
  opens = opens;
  alike = record { same_cuts = same_cuts; same_ends = same_ends; other_stretches = λ e. absurd (omega (arith, one, none, ap second_kb e)) };
}

-- ---- two lists of calls in the zone

abbrev abroad : Account
abroad = after start (Register Zone)

crossed : accepts start (Register Zone) ≡ true
crossed = registers start Zone sound_start

sound_abroad : Sound abroad
sound_abroad = sound_after start (Register Zone) sound_start crossed

-- two calls of m and n seconds that cost nothing
module _ (m n : ℕ) where
  abbrev calling : List Call
  calling = Register Zone ∷ Use Outgoing m ∷ Use Outgoing n ∷ []

  abbrev called : Account
  called = after abroad (Use Outgoing m)

  abbrev Free : Account → ℕ → Type 0
  Free a i = is_accepted (verdict_of (use_reasons a.state Outgoing i)) ≡ true

  module _ (f : Free abroad m) (g : Free called n) where
    once : accepts abroad (Use Outgoing m) ≡ true
    once = uses abroad Outgoing m sound_abroad f

    twice : accepts called (Use Outgoing n) ≡ true
    twice = uses called Outgoing n (sound_after abroad (Use Outgoing m) sound_abroad once) g

    calls_accepted : accepted account_calls start calling ≡ event start (Register Zone) ∷ event abroad (Use Outgoing m) ∷ event called (Use Outgoing n) ∷ []
    calls_accepted = all_three start (Register Zone) (Use Outgoing m) (Use Outgoing n) crossed once twice

    one_cut : cuts account_calls start calling ≡ Register Zone ∷ []
    unfolding boundaries is_boundary
    one_cut = rw calls_accepted refl

    both_added : units_alone (stretches account_calls start calling) ≡ zero_units ∷ each 0 (m + (n + 0)) 0 0 ∷ []
    unfolding units_alone segments first_segment later_segments is_boundary units_of
    both_added = rw calls_accepted refl

    charged_both : (run start calling).state.meters.chargedseconds ≡ 0 + max m 30 + max n 30
    unfolding after register_at registered opened opened_state spend spent charged_units charged_as
    charged_both = rw (run_three start (Register Zone) (Use Outgoing m) (Use Outgoing n) crossed once twice) refl

free_20 : Free 20 40 abroad 20
unfolding verdict_of use_reasons overfills charged_units charged_as cost home_after extra_after billed_after basis_after newly_surcharged billable roaming billed_of surcharged_units surcharged_of billed_kb after_allowance after_first home_charges_of surcharges_of after register_at registered opened opened_state enters plan_allowance open_bundle caps_on caps_from rows_of first_rows row_at built_in table_of
free_20 = refl

free_40 : Free 20 40 (called 20 40) 40
unfolding verdict_of use_reasons overfills charged_units charged_as cost home_after extra_after billed_after basis_after newly_surcharged billable roaming billed_of surcharged_units surcharged_of billed_kb after_allowance after_first home_charges_of surcharges_of after register_at registered opened opened_state enters plan_allowance open_bundle caps_on caps_from rows_of first_rows row_at built_in table_of spend spent
free_40 = refl

free_30 : Free 30 30 abroad 30
unfolding verdict_of use_reasons overfills charged_units charged_as cost home_after extra_after billed_after basis_after newly_surcharged billable roaming billed_of surcharged_units surcharged_of billed_kb after_allowance after_first home_charges_of surcharges_of after register_at registered opened opened_state enters plan_allowance open_bundle caps_on caps_from rows_of first_rows row_at built_in table_of
free_30 = refl

free_30_again : Free 30 30 (called 30 30) 30
unfolding verdict_of use_reasons overfills charged_units charged_as cost home_after extra_after billed_after basis_after newly_surcharged billable roaming billed_of surcharged_units surcharged_of billed_kb after_allowance after_first home_charges_of surcharges_of after register_at registered opened opened_state enters plan_allowance open_bundle caps_on caps_from rows_of first_rows row_at built_in table_of spend spent
free_30_again = refl

pub units_are_not_enough : UnitsAreNotEnough
units_are_not_enough = record {
  same_cuts = one_cut 20 40 free_20 free_40 ∙ sym (one_cut 30 30 free_30 free_30_again);
  same_units = both_added 20 40 free_20 free_40 ∙ sym (both_added 30 30 free_30 free_30_again);
  first_charged = charged_both 20 40 free_20 free_40;
  second_charged = charged_both 30 30 free_30 free_30_again;
}
