-- A use costs no less the more units it has. Assumes nothing.
use Prim.Native.Nat.{ℕ, ◌≤◌}
use native.Mathlib.Nat.{mul-le-mul_left}
use native.Mathlib.Omega.{arith}
use Rattle.tariff.specs.declared.Units.{Units}
use Rattle.tariff.specs.declared.Place.TheVariants.{Home, Zone, Elsewhere}
use Rattle.tariff.specs.declared.Plan.{Plan}
use Rattle.tariff.specs.Units.{AtMost}
use Rattle.tariff.specs.Caps.{built_in, caps_on}
use Rattle.tariff.proofs.ChargeLaws.{billed_grows, after_allowance_grows, home_charges_grow, surcharges_grow}
use Rattle.presence.specs.declared.ServiceState.{ServiceState}
use Rattle.presence.specs.declared.ServiceState.TheVariants.{Clear, Warned, Surcharged}
use Rattle.presence.specs.declared.Services.{Services}
use Rattle.state.specs.declared.State.{State}
use Rattle.state.specs.Use.{billable, roaming, billed_of, surcharged_of, surcharged_units, billed_after, newly_surcharged, basis_after, home_after, extra_after, cost}
use Rattle.std.specs.Prelude.{Option, Some, None}
use Rattle.tariff.specs.declared.Place.{Place}

billable_grows : (w : Option Place) (u v : Units) → AtMost u v → AtMost (billable w u) (billable w v)
unfolding billable
billable_grows None u v h = omega arith
billable_grows (Some Home) u v h = h
billable_grows (Some Zone) u v h = h
billable_grows (Some Elsewhere) u v h = omega arith

roaming_grows : (w : Option Place) (u v : Units) → AtMost u v → AtMost (roaming w u) (roaming w v)
unfolding roaming
roaming_grows None u v h = omega arith
roaming_grows (Some Home) u v h = omega arith
roaming_grows (Some Zone) u v h = h
roaming_grows (Some Elsewhere) u v h = omega arith

part_grows : (s : ServiceState) (x y m n : ℕ) → x ≤ y → m ≤ n → surcharged_of s x m ≤ surcharged_of s y n
unfolding surcharged_of
part_grows Clear x y m n h l = h
part_grows (Warned k) x y m n h l = h
part_grows Surcharged x y m n h l = l

billed_of_grows : (p : Plan) (h : ℕ) (u v : Units) → AtMost u v → AtMost (billed_of p h u) (billed_of p h v)
unfolding billed_of
billed_of_grows p h u v l = omega (arith, billed_grows p.form p.volume h u.kb v.kb l.kb, l)

surcharged_grows : (s : Services) (l : Option ℕ) (r : ℕ) (u v : Units) → AtMost u v → AtMost (surcharged_units s l r u) (surcharged_units s l r v)
unfolding surcharged_units
surcharged_grows s l r u v h = record {
  kb = part_grows s.internet _ _ _ _ (after_allowance_grows l r _ _ h.kb) h.kb;
  outgoing = part_grows s.calls 0 0 _ _ (omega arith) h.outgoing;
  incoming = part_grows s.calls 0 0 _ _ (omega arith) h.incoming;
  sms = part_grows s.messages 0 0 _ _ (omega arith) h.sms;
}

module _ (a : State) (u v : Units) (h : AtMost u v) where
  home_grows : home_after a u ≤ home_after a v
  unfolding home_after billed_after
  home_grows =
      home_charges_grow a.plan _ _
      (omega (arith, billed_of_grows a.plan a.quota.monthly (billable a.place u) (billable a.place v) (billable_grows a.place u v h)))

  newly_grows : AtMost (newly_surcharged a u) (newly_surcharged a v)
  unfolding newly_surcharged
  newly_grows = surcharged_grows a.services a.quota.allowance a.quota.roamed (roaming a.place u) (roaming a.place v) (roaming_grows a.place u v h)

  extra_grows : extra_after a u ≤ extra_after a v
  unfolding extra_after basis_after
  extra_grows =
      let p = newly_grows in
      surcharges_grow _ _
      (omega (
        arith,
        mul-le-mul_left (caps_on built_in a.day).kb p.kb,
        mul-le-mul_left (caps_on built_in a.day).outgoing p.outgoing,
        mul-le-mul_left (caps_on built_in a.day).incoming p.incoming,
        mul-le-mul_left (caps_on built_in a.day).sms p.sms,
      ))

  pub cost_grows : cost a u ≤ cost a v
  unfolding cost
  cost_grows = omega (arith, home_grows, extra_grows)
