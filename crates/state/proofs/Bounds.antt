-- What a use adds is at most its units. Assumes nothing.
use Prim.Native.Nat.{ℕ, ◌≤◌, max}
use native.Mathlib.Omega.{arith}
use mathlib.Core.Path.{◌≡◌, refl}
use mathlib.Core.Bool.{Bool, true, false, cond}
use Rattle.tariff.specs.declared.Units.{Units}
use Rattle.tariff.specs.declared.Kind.{Kind}
use Rattle.tariff.specs.declared.Kind.TheVariants.{Data, Outgoing, Incoming, Sms}
use Rattle.tariff.specs.declared.Place.TheVariants.{Home, Zone, Elsewhere}
use Rattle.tariff.specs.declared.Plan.{Plan}
use Rattle.tariff.specs.Units.{zero_units, only, AtMost}
use Rattle.tariff.proofs.ChargeLaws.{billed_bounded, after_allowance_bounded}
use Rattle.presence.specs.declared.ServiceState.{ServiceState}
use Rattle.presence.specs.declared.ServiceState.TheVariants.{Clear, Warned, Surcharged}
use Rattle.presence.specs.declared.Services.{Services}
use Rattle.presence.specs.Day.{in_zone}
use Rattle.state.specs.declared.State.{State}
use Rattle.state.specs.Use.{charged_as, charged_units, with_seconds, billable, roaming, billed_of, surcharged_of, surcharged_units, newly_surcharged}
use Rattle.state.specs.Needs.{bears}
use Rattle.std.specs.Prelude.{Option, Some, None}
use Rattle.tariff.specs.declared.Place.{Place}

-- what a record is charged as
either_grows : (b : Bool) (m n : ℕ) → m ≤ n → cond b (max m 30) m ≤ cond b (max n 30) n
either_grows true m n h = omega arith
either_grows false m n h = h

either_few : (b : Bool) (n : ℕ) → n ≤ 1000000000 → cond b (max n 30) n ≤ 1000000000
either_few true n h = omega arith
either_few false n h = h

charged_grow : (w : Option Place) (k : Kind) (m n : ℕ) → m ≤ n → charged_as w k m ≤ charged_as w k n
unfolding charged_as
charged_grow w Data m n h = h
charged_grow w Outgoing m n h = either_grows (in_zone w) m n h
charged_grow w Incoming m n h = h
charged_grow w Sms m n h = h

pub charged_few : (w : Option Place) (k : Kind) (n : ℕ) → n ≤ 1000000000 → charged_as w k n ≤ 1000000000
unfolding charged_as
charged_few w Data n h = h
charged_few w Outgoing n h = either_few (in_zone w) n h
charged_few w Incoming n h = h
charged_few w Sms n h = h

-- more units are charged as more
pub charged_order : (w : Option Place) (k : Kind) (m n : ℕ) → m ≤ n → AtMost (charged_units w k m) (charged_units w k n)
unfolding charged_units
charged_order w Data m n h = omega (arith, charged_grow w Data m n h)
charged_order w Outgoing m n h = omega (arith, charged_grow w Outgoing m n h)
charged_order w Incoming m n h = omega (arith, charged_grow w Incoming m n h)
charged_order w Sms m n h = omega (arith, charged_grow w Sms m n h)

-- but for outgoing seconds a record is charged as its units
pub charged_is : (w : Option Place) (k : Kind) (n : ℕ) → charged_units w k n ≡ with_seconds (only k n) (charged_units w k n).outgoing
unfolding charged_units charged_as
charged_is w Data n = refl
charged_is w Outgoing n = refl
charged_is w Incoming n = refl
charged_is w Sms n = refl

pub charged_kinds : (w : Option Place) (k : Kind) (n : ℕ) → AtMost (charged_units w k n) (with_seconds (only k n) (charged_units w k n).outgoing)
unfolding charged_units charged_as
charged_kinds w Data n = omega arith
charged_kinds w Outgoing n = omega arith
charged_kinds w Incoming n = omega arith
charged_kinds w Sms n = omega arith

pub billable_bounded : (w : Option Place) (u : Units) → AtMost (billable w u) u
unfolding billable
billable_bounded None u = omega arith
billable_bounded (Some Home) u = omega arith
billable_bounded (Some Zone) u = omega arith
billable_bounded (Some Elsewhere) u = omega arith

pub roaming_bounded : (w : Option Place) (u : Units) → AtMost (roaming w u) u
unfolding roaming
roaming_bounded None u = omega arith
roaming_bounded (Some Home) u = omega arith
roaming_bounded (Some Zone) u = omega arith
roaming_bounded (Some Elsewhere) u = omega arith

pub billed_of_bounded : (p : Plan) (h : ℕ) (u : Units) → AtMost (billed_of p h u) u
unfolding billed_of
billed_of_bounded p h u = omega (arith, billed_bounded p.form p.volume h u.kb)

part_bounded : (s : ServiceState) (x n : ℕ) → x ≤ n → surcharged_of s x n ≤ n
unfolding surcharged_of
part_bounded Clear x n h = h
part_bounded (Warned k) x n h = h
part_bounded Surcharged x n h = omega arith

surcharged_bounded : (s : Services) (l : Option ℕ) (r : ℕ) (z : Units) → AtMost (surcharged_units s l r z) z
unfolding surcharged_units
surcharged_bounded s l r z = record {
  kb = part_bounded s.internet _ _ (after_allowance_bounded l r z.kb);
  outgoing = part_bounded s.calls 0 z.outgoing (omega arith);
  incoming = part_bounded s.calls 0 z.incoming (omega arith);
  sms = part_bounded s.messages 0 z.sms (omega arith);
}

pub newly_bounded : (a : State) (c : Units) → AtMost (newly_surcharged a c) c
unfolding newly_surcharged
newly_bounded a c = omega (arith, roaming_bounded a.place c, surcharged_bounded a.services a.quota.allowance a.quota.roamed (roaming a.place c))

-- the tests that the code makes
pub billable_is : (w : Option Place) (u : Units) → cond (bears w) u zero_units ≡ billable w u
unfolding billable
billable_is None u = refl
billable_is (Some Home) u = refl
billable_is (Some Zone) u = refl
billable_is (Some Elsewhere) u = refl

pub roaming_is : (w : Option Place) (u : Units) → cond (in_zone w) u zero_units ≡ roaming w u
unfolding roaming
roaming_is None u = refl
roaming_is (Some Home) u = refl
roaming_is (Some Zone) u = refl
roaming_is (Some Elsewhere) u = refl
