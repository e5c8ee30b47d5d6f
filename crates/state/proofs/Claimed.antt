-- The claims of specs/Claims and specs/Moves. Assumes nothing.
use Prim.Native.Nat.{ℕ, ◌≤◌, max}
use mathlib.Core.Path.{◌≡◌, refl, ap}
use mathlib.Core.Bool.{true}
use native.Mathlib.Omega.{arith}
use Rattle.tariff.specs.declared.Units.{Units}
use Rattle.tariff.specs.declared.Kind.{Kind}
use Rattle.tariff.specs.declared.Kind.TheVariants.{Data, Outgoing, Incoming, Sms}
use Rattle.tariff.specs.declared.Place.TheVariants.{Home, Zone, Elsewhere}
use Rattle.tariff.specs.Units.{zero_units, only, AtMost}
use Rattle.tariff.proofs.Tests.{and-false}
use Rattle.tariff.proofs.ChargeLaws.{home_charges_grow, surcharges_grow}
use Rattle.state.specs.declared.State.{State}
use Rattle.state.specs.Moves.{enters, registered, renews, topped, turns_month, next_state_of, LimitsKept}
use Rattle.state.specs.Use.{charged_as, charged_units, billable, roaming, billed_after, newly_surcharged}
use Rattle.state.specs.Use.{basis_after, home_after, extra_after, cost}
use Rattle.state.specs.Sound.{charges_sound}
use Rattle.state.specs.Claims.{UsesAddUp, FirstHalfMinute, FreeUse}
use Rattle.state.proofs.Adding.{spent_adds}
use Rattle.state.proofs.Bounds.{billed_of_bounded, newly_bounded}
use Rattle.state.proofs.Soundness.{charges_tell}
use Rattle.std.specs.Prelude.{Option, Some, None}
use Rattle.tariff.specs.declared.Place.{Place}

-- uses add up where the charges are as worked out
pub uses_add_up : UsesAddUp
uses_add_up a u c v d h = spent_adds a u c v d (charges_tell a h).worked

-- what a record is charged for, case by case
short_calls : (n : ℕ) → n ≤ 30 → charged_units (Some Zone) Outgoing n ≡ only Outgoing 30
unfolding charged_units charged_as
short_calls n h = let e : max n 30 ≡ 30 = omega arith in ap (only Outgoing) e

long_calls : (n : ℕ) → 30 ≤ n → charged_units (Some Zone) Outgoing n ≡ only Outgoing n
unfolding charged_units charged_as
long_calls n h = let e : max n 30 ≡ n = omega arith in ap (only Outgoing) e

other_kinds : (w : Option Place) (k : Kind) (n : ℕ) → (k ≡ Outgoing → ⊥) → charged_units w k n ≡ only k n
unfolding charged_units charged_as
other_kinds w Data n h = refl
other_kinds w Outgoing n h = absurd (h refl)
other_kinds w Incoming n h = refl
other_kinds w Sms n h = refl

outgoing_as_spoken : (w : Option Place) (n : ℕ) → (w ≡ Some Zone → ⊥) → charged_units w Outgoing n ≡ only Outgoing n
unfolding charged_units charged_as
outgoing_as_spoken None n h = refl
outgoing_as_spoken (Some Home) n h = refl
outgoing_as_spoken (Some Zone) n h = absurd (h refl)
outgoing_as_spoken (Some Elsewhere) n h = refl

other_places : (w : Option Place) (k : Kind) (n : ℕ) → (w ≡ Some Zone → ⊥) → charged_units w k n ≡ only k n
unfolding charged_units charged_as
other_places w Data n h = refl
other_places w Outgoing n h = outgoing_as_spoken w n h
other_places w Incoming n h = refl
other_places w Sms n h = refl

pub first_half_minute : FirstHalfMinute
first_half_minute = record { short_calls = short_calls; long_calls = long_calls; other_kinds = other_kinds; other_places = other_places }

-- outside the zone a use has no zone units, so none of its units bear a surcharge
no_zone_units : (w : Option Place) (c : Units) → (w ≡ Some Zone → ⊥) → roaming w c ≡ roaming w zero_units
unfolding roaming
no_zone_units None c h = refl
no_zone_units (Some Home) c h = refl
no_zone_units (Some Zone) c h = absurd (h refl)
no_zone_units (Some Elsewhere) c h = refl

-- units of which there is at most none
none : (u : Units) → AtMost u zero_units → u ≡ zero_units
none u h =
    let kb : u.kb ≡ 0 = omega arith in
    let outgoing : u.outgoing ≡ 0 = omega arith in
    let incoming : u.incoming ≡ 0 = omega arith in
    let sms : u.sms ≡ 0 = omega arith in
    λ i. record { kb = kb i; outgoing = outgoing i; incoming = incoming i; sms = sms i }

outside : (a : State) (c : Units) → (a.place ≡ Some Zone → ⊥) → newly_surcharged a c ≡ zero_units
unfolding newly_surcharged
outside a c h = rw (no_zone_units a.place c h) (none _ (newly_bounded a zero_units))

elsewhere : (a : State) (c : Units) → charges_sound a ≡ true → a.place ≡ Some Elsewhere → cost a c ≡ 0
unfolding cost home_after extra_after billed_after basis_after billable
elsewhere a c h e =
    let w = (charges_tell a h).worked in
    let fresh = outside a c (λ z. let one : ◌≡◌ {A = ℕ} 0 1 = cc in omega arith) in
    let billed = billed_of_bounded a.plan a.quota.monthly zero_units in
    omega (
      arith,
      home_charges_grow a.plan (billed_after a c) a.meters.billed (rw e (omega arith)),
      surcharges_grow (basis_after a c) a.meters.basis (rw fresh (omega arith)),
    )

pub free_use : FreeUse
free_use = record { elsewhere = elsewhere; outside = outside }

-- who is in the zone does not enter it
again : (a : State) → a.place ≡ Some Zone → (registered a Zone).quota ≡ a.quota
unfolding registered enters
again a e = rw (e, and-false) refl

pub limits_kept : LimitsKept
unfolding topped renews next_state_of turns_month
limits_kept = record {
  again = again;
  bundle_topped = λ a n e. rw e refl;
  prepaid_month = λ a ds e. rw e refl;
}
