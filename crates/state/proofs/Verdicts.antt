-- What a use answers, reason by reason. Assumes nothing.
use Prim.Native.Nat.{ℕ, ◌+◌, ◌≤◌, ◌<◌}
use mathlib.Core.Path.{◌≡◌, refl}
use mathlib.Core.Bool.{true, false}
use native.Mathlib.Omega.{arith}
use lib.Dec.{leb, ltb}
use borrow.Author.Tests.{leb-true, ltb-false, lt-ltb, le-ltb}
use Rattle.tariff.specs.declared.Units.{Units}
use Rattle.tariff.specs.declared.Kind.{Kind}
use Rattle.tariff.specs.declared.Kind.TheVariants.{Data, Outgoing, Incoming, Sms}
use Rattle.tariff.specs.Tests.{between, verdict_of}
use Rattle.tariff.specs.Units.{each, ◌⊕◌, only, of_kind, AtMost}
use Rattle.calendar.proofs.Laws.{or_left, or_right}
use Rattle.tariff.proofs.Tests.{and_left, and_right}
use Rattle.presence.specs.Day.{is_placed}
use Rattle.presence.specs.Log.{lifetime_most}
use Rattle.state.specs.declared.State.{State}
use Rattle.state.specs.declared.StateApplied.{StateApplied}
use Rattle.state.specs.declared.Outcome.TheVariants.{Charged}
use Rattle.tariff.specs.declared.Refusal.{Refusal}
use Rattle.tariff.specs.declared.Refusal.TheVariants.{Unplaced, UnitCount, MeterFull, OverCredit}
use Rattle.state.specs.Use.{charged_as, charged_units, cost, spent, charge_of}
use Rattle.state.specs.Sound.{chargeable, counters_sound}
use Rattle.state.specs.Reasons.{overfills, use_reasons, use_state}
use Rattle.state.specs.Needs.{Ready}
use Rattle.state.proofs.Bounds.{charged_few}
use Rattle.state.proofs.Soundness.{Counters, counters_tell}
use Rattle.std.specs.Prelude.{Option, Ok, Err}
use Rattle.tariff.specs.declared.Place.{Place}

abbrev refused : Refusal → State → StateApplied
refused r a = record { answer = Err r; state = a }

module _ (a : State) (k : Kind) (n : ℕ) where
  pub used_3 : is_placed a.place ≡ false → refused Unplaced a ≡ use_state a k n
  unfolding use_state use_reasons verdict_of
  used_3 p = rw p refl

  pub used_4 : is_placed a.place ≡ true → between 1 n 1000000000 ≡ false → refused UnitCount a ≡ use_state a k n
  unfolding use_state use_reasons verdict_of
  used_4 p e = rw (p, e) refl

  pub used_5 : is_placed a.place ≡ true → between 1 n 1000000000 ≡ true → overfills a k n ≡ true → refused MeterFull a ≡ use_state a k n
  unfolding use_state use_reasons verdict_of
  used_5 p e o = rw (p, e, o) refl

  pub used_6 : is_placed a.place ≡ true → between 1 n 1000000000 ≡ true → overfills a k n ≡ false → a.money.credit < cost a (charged_units a.place k n)
      → refused OverCredit a ≡ use_state a k n
  unfolding use_state use_reasons verdict_of
  used_6 p e o m = rw (p, e, o, lt-ltb _ _ m) refl

  pub used_yes : is_placed a.place ≡ true → between 1 n 1000000000 ≡ true → overfills a k n ≡ false → cost a (charged_units a.place k n) ≤ a.money.credit
      → record { answer = Ok (Charged (charge_of a k (charged_units a.place k n))); state = spent a (only k n) (charged_units a.place k n) } ≡ use_state a k n
  unfolding use_state use_reasons verdict_of
  used_yes p e o m = rw (p, e, o, le-ltb _ _ m) refl

  -- the limits that a use keeps unless it is refused by 5
  pub record Room : Type 0 where
    pub units : of_kind k a.meters.lifetime + n ≤ 1000000000000
    pub seconds : a.meters.chargedseconds + (charged_units a.place k n).outgoing ≤ 1000000000000

  pub has_room : overfills a k n ≡ false → Room
  unfolding overfills
  has_room o =
      let u = ltb 1000000000000 (of_kind k a.meters.lifetime + n) in
      let s = ltb 1000000000000 (a.meters.chargedseconds + (charged_units a.place k n).outgoing) in
      record { units = ltb-false _ _ (or_left u s o); seconds = ltb-false _ _ (or_right u s o) }

  pub room_enough : Room → overfills a k n ≡ false
  unfolding overfills
  room_enough r = rw (le-ltb _ _ r.units, le-ltb _ _ r.seconds) refl

few_only : (k : Kind) (n : ℕ) → n ≤ 1000000000 → AtMost (only k n) (each 1000000000 1000000000 1000000000 1000000000)
few_only Data n h = omega arith
few_only Outgoing n h = omega arith
few_only Incoming n h = omega arith
few_only Sms n h = omega arith

pub room_only : (u : Units) (k : Kind) (n : ℕ) → AtMost u lifetime_most → of_kind k u + n ≤ 1000000000000 → AtMost (u ⊕ only k n) lifetime_most
room_only u Data n h l = omega arith
room_only u Outgoing n h l = omega arith
room_only u Incoming n h l = omega arith
room_only u Sms n h l = omega arith

room_charged : (a : State) (k : Kind) (n : ℕ) → Counters a → Room a k n → AtMost (chargeable a ⊕ charged_units a.place k n) lifetime_most
unfolding charged_units charged_as
room_charged a Data n f r = omega (arith, f.lifetime_ok, f.charged_ok, r.units)
room_charged a Outgoing n f r = omega (arith, f.lifetime_ok, r.seconds)
room_charged a Incoming n f r = omega (arith, f.lifetime_ok, f.charged_ok, r.units)
room_charged a Sms n f r = omega (arith, f.lifetime_ok, f.charged_ok, r.units)

few_charged : (w : Option Place) (k : Kind) (n : ℕ) → n ≤ 1000000000 → AtMost (charged_units w k n) (each 1000000000 1000000000 1000000000 1000000000)
unfolding charged_units
few_charged w k n h = few_only k (charged_as w k n) (charged_few w k n h)

pub ready : (a : State) (k : Kind) (n : ℕ) → counters_sound a ≡ true → n ≤ 1000000000 → overfills a k n ≡ false → Ready a (charged_units a.place k n)
ready a k n f h o = record { counters = f; few = few_charged a.place k n h; room = room_charged a k n (counters_tell a f) (has_room a k n o) }

pub lifetime_room : (a : State) (k : Kind) (n : ℕ) → counters_sound a ≡ true → overfills a k n ≡ false → AtMost (a.meters.lifetime ⊕ only k n) lifetime_most
lifetime_room a k n f o = room_only a.meters.lifetime k n (counters_tell a f).lifetime_ok (has_room a k n o).units

-- charged seconds after a record stay within the machine's numbers
pub seconds_most : (a : State) (k : Kind) (n : ℕ) → counters_sound a ≡ true → n ≤ 1000000000 → a.meters.chargedseconds + (charged_units a.place k n).outgoing ≤ 1001000000000
seconds_most a k n f h = omega (arith, (counters_tell a f).charged_ok, few_charged a.place k n h)

pub some : (n m : ℕ) → between 1 n m ≡ true → 1 ≤ n
some n m e = leb-true _ _ (and_left (leb 1 n) (leb n m) e)

pub few : (n m : ℕ) → between 1 n m ≡ true → n ≤ m
few n m e = leb-true _ _ (and_right (leb 1 n) (leb n m) e)

pub kind_most : (k : Kind) (a : State) → counters_sound a ≡ true → of_kind k a.meters.lifetime ≤ 1000000000000
kind_most Data a f = (counters_tell a f).lifetime_ok.kb
kind_most Outgoing a f = (counters_tell a f).lifetime_ok.outgoing
kind_most Incoming a f = (counters_tell a f).lifetime_ok.incoming
kind_most Sms a f = (counters_tell a f).lifetime_ok.sms
