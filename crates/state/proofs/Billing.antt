-- The bounds of what a use makes of the sums, on a sound account. Assumes nothing.
use Prim.Native.Nat.{◌+◌, ◌-◌, ◌≤◌}
use mathlib.Core.Path.{◌≡◌, refl, ◌∙◌, ap, sym}
use native.Mathlib.Nat.{mul-le-mul}
use native.Mathlib.Omega.{arith}
use Rattle.tariff.specs.declared.Units.{Units}
use Rattle.tariff.specs.declared.Place.TheVariants.{Home, Zone, Elsewhere}
use Rattle.tariff.specs.Units.{each, ◌⊕◌, ◌⊗◌, AtMost, Adds, Multiplies}
use Rattle.tariff.specs.Caps.{built_in, caps_on}
use Rattle.tariff.specs.Charges.{counted_kb, PriceFits, BasisFits}
use Rattle.tariff.proofs.Tables.{caps_bound}
use Rattle.tariff.proofs.ChargeLaws.{counted_bounded, home_charges_bounded, surcharges_bounded}
use Rattle.presence.specs.declared.Day.{Day}
use Rattle.presence.specs.Day.{mark_day, day_units, DayAdds}
use Rattle.presence.specs.Log.{lifetime_most}
use Rattle.state.specs.declared.State.{State}
use Rattle.state.specs.declared.Bill.{Bill}
use Rattle.state.specs.Use.{billable, roaming, billed_of, billed_after, newly_surcharged, basis_after, home_after, extra_after, cost}
use Rattle.state.specs.Needs.{Ready, Steady, Spends, bill_of}
use Rattle.state.proofs.Adding.{home_grows, extra_grows}
use Rattle.state.proofs.Bounds.{billable_bounded, roaming_bounded, billed_of_bounded, newly_bounded}
use Rattle.state.proofs.Soundness.{Counters, counters_tell, charges_tell, plan_of_state}
use Rattle.std.specs.Prelude.{Option, Some, None}
use Rattle.tariff.specs.declared.Place.{Place}

billed_in : (a : State) (u : Units) → AtMost (billed_of a.plan a.quota.monthly (billable a.place u)) u
billed_in a u = omega (arith, billable_bounded a.place u, billed_of_bounded a.plan a.quota.monthly (billable a.place u))

few_newly : (a : State) (u : Units) → AtMost u (each 1000000000 1000000000 1000000000 1000000000) → AtMost (newly_surcharged a u) (each 1000000000 1000000000 1000000000 1000000000)
few_newly a u f = omega (arith, newly_bounded a u)

products : (c x : Units) → AtMost c (each 20000 20000 20000 20000) → AtMost x (each 1000000000 1000000000 1000000000 1000000000)
    → AtMost (c ⊗ x) (each 20000000000000 20000000000000 20000000000000 20000000000000)
products c x l f = omega (arith, mul-le-mul l.kb f.kb, mul-le-mul l.outgoing f.outgoing, mul-le-mul l.incoming f.incoming, mul-le-mul l.sms f.sms)

basis_in : (a : State) → Counters a → AtMost a.meters.basis (each 20000000000000000 20000000000000000 20000000000000000 20000000000000000)
basis_in a f = omega (arith, f.basis_ok, f.surcharged_ok, f.lifetime_ok, f.charged_ok)

module _ (a : State) (u : Units) (r : Ready a u) where
  share : AtMost (caps_on built_in a.day ⊗ newly_surcharged a u) (each 20000000000000 20000000000000 20000000000000 20000000000000)
  share = products (caps_on built_in a.day) (newly_surcharged a u) (caps_bound a.day).most (few_newly a u r.few)

  pub billed_sum : Adds a.meters.billed (billed_of a.plan a.quota.monthly (billable a.place u))
  billed_sum = let f = counters_tell a r.counters in omega (arith, r.room, billed_in a u, f.billed_ok)

  pub basis_product : Multiplies (caps_on built_in a.day) (newly_surcharged a u)
  basis_product = omega (arith, share)

  pub basis_sum : Adds a.meters.basis (caps_on built_in a.day ⊗ newly_surcharged a u)
  basis_sum = omega (arith, basis_in a (counters_tell a r.counters), share)

  pub price_fits : PriceFits a.plan (billed_after a u)
  unfolding billed_after
  price_fits =
      let f = counters_tell a r.counters in
      omega (arith, r.room, billed_in a u, f.billed_ok, plan_of_state a f)

  pub basis_fits : BasisFits (basis_after a u)
  unfolding basis_after
  basis_fits = omega (arith, basis_in a (counters_tell a r.counters), share)

  pub surcharged_sum : Adds a.meters.surcharged (newly_surcharged a u)
  surcharged_sum = let f = counters_tell a r.counters in omega (arith, r.room, newly_bounded a u, f.surcharged_ok)

-- the charges of a use, on a sound account
pub record Grown (a : State) (b : Bill) : Type 0 where
  pub homes : a.money.homecharges ≤ b.home
  pub extras : a.money.surcharges ≤ b.extra
  pub home_most : b.home ≤ 2000000000000000000
  pub extra_most : b.extra ≤ 2000000000000000000

pub grown : (a : State) (u : Units) → Steady a → Ready a u → Grown a (bill_of a u)
unfolding bill_of
grown a u s r =
    let w = (charges_tell a s.charges).worked in
    record {
      homes = home_grows a u w;
      extras = extra_grows a u w;
      home_most = unfold home_after in home_charges_bounded a.plan (billed_after a u) (price_fits a u r);
      extra_most = unfold extra_after in surcharges_bounded (basis_after a u) (basis_fits a u r);
    }

marked_sum : (w : Option Place) (d : Day) (u l : Units) → AtMost (day_units d) l → Adds l u → DayAdds (mark_day w d) u
unfolding mark_day
marked_sum None d u l h a = record { home_adds = omega (arith, h); zone_adds = omega (arith, h); outside_adds = omega (arith, h) }
marked_sum (Some Home) d u l h a = record { home_adds = omega (arith, h); zone_adds = omega (arith, h); outside_adds = omega (arith, h) }
marked_sum (Some Zone) d u l h a = record { home_adds = omega (arith, h); zone_adds = omega (arith, h); outside_adds = omega (arith, h) }
marked_sum (Some Elsewhere) d u l h a = record { home_adds = omega (arith, h); zone_adds = omega (arith, h); outside_adds = omega (arith, h) }

pub today_sum : (a : State) (u : Units) → Steady a → AtMost (a.meters.lifetime ⊕ u) lifetime_most → DayAdds (mark_day a.place a.today) u
today_sum a u s r = marked_sum a.place a.today u a.meters.lifetime s.today (omega (arith, r))

pub record Counted (a : State) (u : Units) : Type 0 where
  pub month : a.quota.monthly + counted_kb a.plan.form (billable a.place u).kb ≤ 1000000000000
  pub zone : a.quota.roamed + (roaming a.place u).kb ≤ 1000000000000

pub counted_in : (a : State) (u : Units) → Ready a u → Counted a u
counted_in a u r =
    let f = counters_tell a r.counters in
    omega (arith, r.room, f.monthly_ok, f.roamed_ok, billable_bounded a.place u, roaming_bounded a.place u, counted_bounded a.plan.form (billable a.place u).kb)

-- what the bill says of H and R
pub counted_is : {a : State} {c : Units} {b : Bill} → Spends a c b → b.counted ≡ counted_kb a.plan.form (billable a.place c).kb
counted_is s = ap (λ (x : Bill). x.counted) s.bill_is ∙ unfold bill_of in refl

pub zone_is : {a : State} {c : Units} {b : Bill} → Spends a c b → b.zone ≡ (roaming a.place c).kb
zone_is s = ap (λ (x : Bill). x.zone) s.bill_is ∙ unfold bill_of in refl

pub cost_is : (a : State) (u : Units) → cost a u ≡ ((bill_of a u).home - a.money.homecharges) + ((bill_of a u).extra - a.money.surcharges)
unfolding cost bill_of
cost_is a u = refl

-- what is known of a use that is not refused, by its bill
pub record Told (a : State) (c : Units) (b : Bill) : Type 0 where
  pub grown : Grown a b
  pub month : a.quota.monthly + b.counted ≤ 1000000000000
  pub zone : a.quota.roamed + b.zone ≤ 1000000000000
  pub seconds : a.meters.chargedseconds + c.outgoing ≤ 1000000000000
  pub costs : (b.home - a.money.homecharges) + (b.extra - a.money.surcharges) ≡ cost a c
  pub affordable : cost a c ≤ a.money.credit
  pub fresh : Adds a.meters.surcharged b.fresh

pub spends_tell : (a : State) (c : Units) (b : Bill) → Spends a c b → Told a c b
spends_tell a c b s = record {
  grown = rw s.bill_is (grown a c s.steady s.ready);
  month = omega (arith, counted_is s, counted_in a c s.ready);
  zone = omega (arith, zone_is s, counted_in a c s.ready);
  seconds = omega (arith, s.ready.room);
  costs = rw s.bill_is (sym (cost_is a c));
  affordable = s.affordable;
  fresh = rw s.bill_is (unfold bill_of in surcharged_sum a c s.ready);
}

-- what a use's bill tells before its cost is looked at, and where the credit is enough
pub record Billed (a : State) (c : Units) (b : Bill) : Type 0 where
  pub grown : Grown a b
  pub costs : (b.home - a.money.homecharges) + (b.extra - a.money.surcharges) ≡ cost a c

pub bill_tells : (a : State) (c : Units) (b : Bill) → Steady a → Ready a c → b ≡ bill_of a c → Billed a c b
bill_tells a c b s r e = record { grown = rw e (grown a c s r); costs = rw e (sym (cost_is a c)) }

pub affords : (a : State) (c : Units) (b : Bill) → Steady a → Ready a c → b ≡ bill_of a c
    → (b.home - a.money.homecharges) + (b.extra - a.money.surcharges) ≤ a.money.credit → Spends a c b
affords a c b s r e h = record {
  steady = s;
  ready = r;
  bill_is = e;
  affordable = let t = bill_tells a c b s r e in omega (arith, t.costs, h);
}
