-- The account's calls keep the laws on which the match of two lists rests. Assumes nothing.
use Prim.Native.Nat.{ℕ, ◌+◌, ◌≤◌}
use mathlib.Core.Path.{◌≡◌, refl, sym, ◌∙◌, ap}
use mathlib.Core.Bool.{Bool, true, false, cond}
use mathlib.Core.List.{List}
use native.Mathlib.Nat.{zero-add, add-zero}
use native.Mathlib.Omega.{arith}
use lib.Dec.{eqb}
use borrow.Author.Tests.{eqb-true, eqb-false, ne_eqb}
use Rattle.tariff.specs.declared.Kind.{Kind}
use Rattle.tariff.specs.declared.Kind.TheVariants.{Data, Outgoing, Incoming, Sms}
use Rattle.tariff.specs.Units.{only}
use Rattle.state.specs.Use.{charged_units, with_seconds, spent}
use Rattle.state.specs.Moves.{registered, topped, next_state_of}
use Rattle.state.proofs.Adding.{Worked, spent_worked}
use Rattle.state.proofs.Bounds.{charged_is}
use Rattle.state.proofs.Verdicts.{some}
use Rattle.account.specs.declared.Account.{Account}
use Rattle.account.specs.declared.Call.{Call}
use Rattle.account.specs.declared.Call.TheVariants.{Register, Use, TopUp, NextDay, Afford}
use Rattle.account.specs.Whole.{spend, register_at, top_up_by, day_after}
use Rattle.account.specs.Calls.{accepts, after}
use Rattle.account.proofs.Kept.{spend_adds, some_units}
use Rattle.machine.specs.Machine.{Matches}
use Rattle.machine.proofs.Match.{Lawful, matching}
use Rattle.ledger.specs.Lists.{is_boundary, units_of, seconds_of, Taken, taken, none_taken, both_taken, account_calls}

abbrev total : Taken → ℕ
total t = t.units.kb + t.units.outgoing + t.units.incoming + t.units.sms + t.seconds

is_empty : Taken → Bool
is_empty t = eqb (total t) 0

is_empty_true : (t : Taken) → is_empty t ≡ true → t ≡ none_taken
unfolding is_empty
is_empty_true t e =
    let s : total t ≡ 0 = eqb-true (total t) 0 e in
    let k : t.units.kb ≡ 0 = omega arith in
    let o : t.units.outgoing ≡ 0 = omega arith in
    let n : t.units.incoming ≡ 0 = omega arith in
    let m : t.units.sms ≡ 0 = omega arith in
    let c : t.seconds ≡ 0 = omega arith in
    λ i. record { units = record { kb = k i; outgoing = o i; incoming = n i; sms = m i }; seconds = c i }

is_empty_add : (t v : Taken) → is_empty t ≡ false → is_empty (both_taken t v) ≡ false
unfolding is_empty
is_empty_add t v e = ne_eqb (total (both_taken t v)) 0 (λ s. eqb-false (total t) 0 e (omega arith))

none_both : (t : Taken) → both_taken none_taken t ≡ t
none_both t = simp zero-add

both_none : (t : Taken) → both_taken t none_taken ≡ t
both_none t = simp add-zero

-- units, charged as their kinds have it but for the seconds
taking : Account → Taken → Account
taking a t = spend a t.units (with_seconds t.units t.seconds)

-- the units and charged seconds of a stretch taken at once: none leave the account as it is
pub absorb : Account → Taken → Account
absorb a t = cond (is_empty t) a (taking a t)

pub absorb_none : (a : Account) → absorb a none_taken ≡ a
unfolding absorb is_empty
absorb_none a = refl

absorb_some : (a : Account) (t : Taken) → is_empty t ≡ false → absorb a t ≡ taking a t
unfolding absorb
absorb_some a t e = rw e

pub worked_absorb : (a : Account) (t : Taken) → Worked a.state → Worked (absorb a t).state
unfolding absorb taking spend
worked_absorb a t w = go (is_empty t)
  where
    go : (b : Bool) → Worked (cond b a (taking a t)).state
    go true = w
    go false = spent_worked a.state t.units (with_seconds t.units t.seconds) t.units t.units

taking_add : (a : Account) (t v : Taken) → Worked a.state → taking (taking a t) v ≡ taking a (both_taken t v)
unfolding taking
taking_add a t v w = spend_adds a t.units (with_seconds t.units t.seconds) v.units (with_seconds v.units v.seconds) w

pub absorb_add : (a : Account) (t v : Taken) → Worked a.state → absorb (absorb a t) v ≡ absorb a (both_taken t v)
absorb_add a t v w = go (is_empty t) refl (is_empty v) refl
  where
    go : (b : Bool) → is_empty t ≡ b → (c : Bool) → is_empty v ≡ c → absorb (absorb a t) v ≡ absorb a (both_taken t v)
    go true e c f = rw (is_empty_true t e, absorb_none) (ap (absorb a) (sym (none_both v)))
    go false e true f = rw (is_empty_true v f, absorb_none) (ap (absorb a) (sym (both_none t)))
    go false e false f = rw (absorb_some a t e, absorb_some (taking a t) v f, absorb_some a (both_taken t v) (is_empty_add t v e)) (taking_add a t v w)

-- what an account holds of units and charged seconds
held : Account → Taken
held a = record { units = a.state.meters.lifetime; seconds = a.state.meters.chargedseconds }

absorb_held : (a : Account) (t : Taken) → held (absorb a t) ≡ both_taken (held a) t
absorb_held a t = go (is_empty t) refl
  where
    go : (b : Bool) → is_empty t ≡ b → held (absorb a t) ≡ both_taken (held a) t
    go true e = rw (is_empty_true t e, absorb_none) (sym (both_none (held a)))
    go false e = rw (absorb_some a t e) (unfold held taking spend spent in refl)

pub absorb_inj : (a : Account) (t v : Taken) → absorb a t ≡ absorb a v → t ≡ v
absorb_inj a t v e =
    let l : both_taken (held a) t ≡ both_taken (held a) v = sym (absorb_held a t) ∙ ap held e ∙ absorb_held a v in
    let k : t.units.kb ≡ v.units.kb = omega (arith, ap (λ (x : Taken). x.units.kb) l) in
    let o : t.units.outgoing ≡ v.units.outgoing = omega (arith, ap (λ (x : Taken). x.units.outgoing) l) in
    let n : t.units.incoming ≡ v.units.incoming = omega (arith, ap (λ (x : Taken). x.units.incoming) l) in
    let m : t.units.sms ≡ v.units.sms = omega (arith, ap (λ (x : Taken). x.units.sms) l) in
    let c : t.seconds ≡ v.seconds = omega (arith, ap (λ (x : Taken). x.seconds) l) in
    λ i. record { units = record { kb = k i; outgoing = o i; incoming = n i; sms = m i }; seconds = c i }

pub worked_after : (a : Account) (c : Call) → Worked a.state → Worked (after a c).state
unfolding after spend register_at top_up_by day_after registered topped next_state_of
worked_after a (Register p) w = record { home_is = w.home_is; extra_is = w.extra_is }
worked_after a (Use k n) w = spent_worked a.state (only k n) (charged_units a.state.place k n) (only k n) (only k n)
worked_after a (TopUp n) w = record { home_is = w.home_is; extra_is = w.extra_is }
worked_after a NextDay w = record { home_is = w.home_is; extra_is = w.extra_is }
worked_after a (Afford k) w = w

positive : (k : Kind) (n s : ℕ) → 1 ≤ n → is_empty (record { units = only k n; seconds = s }) ≡ false
unfolding is_empty
positive Data n s h = ne_eqb (total (record { units = only Data n; seconds = s })) 0 (λ e. omega arith)
positive Outgoing n s h = ne_eqb (total (record { units = only Outgoing n; seconds = s })) 0 (λ e. omega arith)
positive Incoming n s h = ne_eqb (total (record { units = only Incoming n; seconds = s })) 0 (λ e. omega arith)
positive Sms n s h = ne_eqb (total (record { units = only Sms n; seconds = s })) 0 (λ e. omega arith)

use_absorb : (a : Account) (k : Kind) (n : ℕ) → 1 ≤ n
    → spend a (only k n) (charged_units a.state.place k n) ≡ absorb a (record { units = only k n; seconds = (charged_units a.state.place k n).outgoing })
unfolding taking
use_absorb a k n h = ap (spend a (only k n)) (charged_is a.state.place k n) ∙ sym (absorb_some a _ (positive k n (charged_units a.state.place k n).outgoing h))

-- an accepted call that is no cut takes its units
pub after_absorb : (a : Account) (c : Call) → accepts a c ≡ true → is_boundary c ≡ false → after a c ≡ absorb a (taken a c)
unfolding after is_boundary units_of seconds_of
after_absorb a (Register p) e f = cc
after_absorb a (Use k n) e f = use_absorb a k n (some n 1000000000 (some_units a k n e))
after_absorb a (TopUp n) e f = cc
after_absorb a NextDay e f = cc
after_absorb a (Afford k) e f = sym (absorb_none a)

-- the account's calls keep the laws of the match
account_laws : Lawful account_calls
account_laws = record {
  Good = λ (a : Account). Worked a.state;
  Fits = λ (u : Taken). Unit {0};
  absorb = absorb;
  good_after = worked_after;
  good_absorb = worked_absorb;
  fits_none = tt;
  fits_plus = λ u v p q. tt;
  fits_call = λ a c w e. tt;
  absorb_none = absorb_none;
  absorb_plus = λ a u v w p q. absorb_add a u v w;
  absorb_call = λ a c w e f. after_absorb a c e f;
  absorb_tells = λ a u v w p q e. absorb_inj a u v e;
}

pub account_matches : (a : Account) → Worked a.state → (xs ys : List Call) → Matches account_calls a a xs ys
unfolding account_laws
account_matches a w xs ys = matching account_calls account_laws a w xs ys
