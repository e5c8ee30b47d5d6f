-- What soundness tells, part by part. Assumes nothing.
use Prim.Native.Nat.{ℕ, ◌≤◌, ◌<◌}
use mathlib.Core.Path.{◌≡◌, ap}
use mathlib.Core.Bool.{true}
use mathlib.Core.List.{List}
use native.Mathlib.Numerals.{add-one}
use native.Mathlib.Omega.{arith}
use lib.ListN.{drop}
use Rattle.tariff.specs.declared.Units.{Units}
use Rattle.tariff.specs.Units.{◌⊕◌, AtMost}
use Rattle.tariff.proofs.Tests.{all_nil, all_cons, all_head, all_tail}
use Rattle.std.specs.Prelude.{Ok}
use Rattle.tariff.specs.declared.Plan.{Plan}
use Rattle.tariff.specs.Tests.{is_accepted}
use Rattle.tariff.specs.Plan.{plan_verdict}
use Rattle.tariff.proofs.PlanLaws.{plan_ranged, opens_tells}
use Rattle.tariff.proofs.Sums.{fits_tells, fits_yes}
use Rattle.presence.specs.declared.Day.{Day}
use Rattle.presence.specs.Day.{day_units, joined}
use Rattle.presence.specs.Log.{days_of, units_over, all_blank, marks_proper, log_within}
use Rattle.presence.proofs.Logs.{over_joined}
use Rattle.state.specs.Sound.{counters_sound, charges_sound}
use Rattle.state.specs.Needs.{Steady, Turns, Payable}
use Rattle.state.proofs.Soundness.{counters_tell, charges_tell}
use Rattle.account.specs.declared.Account.{Account}
use Rattle.account.specs.Whole.{sound}

-- the log's part
pub record Logged (xs : List ℕ) (today : Day) (n : ℕ) (lifetime : Units) : Type 0 where
  pub days_ok : AtMost (day_units today ⊕ units_over n (days_of xs)) lifetime
  pub rest_ok : all_blank (drop n (days_of xs)) ≡ true
  pub marks_ok : marks_proper 123 xs ≡ true

pub log_tells : (xs : List ℕ) (today : Day) (n : ℕ) (lifetime : Units) → log_within xs today n lifetime ≡ true → Logged xs today n lifetime
unfolding log_within
log_tells xs today n lifetime e = record {
  days_ok = fits_tells _ _ (all_head _ _ e);
  rest_ok = all_head _ _ (all_tail _ _ e);
  marks_ok = all_head _ _ (all_tail _ _ (all_tail _ _ e));
}

pub log_passes : (xs : List ℕ) (today : Day) (n : ℕ) (lifetime : Units) → Logged xs today n lifetime → log_within xs today n lifetime ≡ true
unfolding log_within
log_passes xs today n lifetime s = all_cons _ _ (fits_yes _ _ s.days_ok) (all_cons _ _ s.rest_ok (all_cons _ _ s.marks_ok all_nil))

module _ (a : Account) (s : sound a ≡ true) where
  pub has_counters : counters_sound a.state ≡ true
  unfolding sound
  has_counters = all_head _ _ s

  pub has_charges : charges_sound a.state ≡ true
  unfolding sound
  has_charges = all_head _ _ (all_tail _ _ s)

  pub has_log : Logged a.log a.state.today a.state.logged a.state.meters.lifetime
  unfolding sound
  has_log = log_tells _ _ _ _ (all_head _ _ (all_tail _ _ (all_tail _ _ s)))

  pub steady : Steady a.state
  steady = record { counters = has_counters; charges = has_charges; today = omega (arith, has_log.days_ok) }

  pub credit_most : a.state.money.credit ≤ a.state.money.paid
  credit_most = omega (arith, (charges_tell a.state has_charges).balance)

  pub paid_most : a.state.money.paid ≤ 1000000000
  paid_most = (counters_tell a.state has_counters).paid_ok

  pub turns : a.state.day < 3833 → Turns a.state (joined a.state.today (days_of a.log))
  turns h =
      let f = counters_tell a.state has_counters in
      let o = over_joined a.state.logged a.state.today (days_of a.log) (omega (arith, f.logged_ok)) in
      record {
        counters = has_counters;
        before_end = h;
        within = rw (add-one a.state.logged) (omega (arith, o, has_log.days_ok, f.lifetime_ok));
      }

-- a plan that opens has a fee and a volume that an allowance can be worked out from
pub opens_payable : (p : Plan) → plan_verdict p ≡ Ok tt → Payable p
opens_payable p e =
    let r = plan_ranged p (opens_tells p (ap is_accepted e)).ranges in
    record { money = r.money; kilobytes = r.kilobytes }
