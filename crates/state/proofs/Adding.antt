-- Uses add up: two uses, one after the other, come to one use of their sum. Assumes nothing.
use Prim.Native.Nat.{ℕ, ◌+◌, ◌-◌, ◌≤◌}
use mathlib.Core.Path.{◌≡◌, refl, ◌∙◌, ap}
use native.Mathlib.Nat.{add_assoc}
use native.Mathlib.Omega.{arith}
use Rattle.tariff.specs.declared.Units.{Units}
use Rattle.tariff.specs.declared.Place.TheVariants.{Home, Zone, Elsewhere}
use Rattle.tariff.specs.declared.Plan.{Plan}
use Rattle.tariff.specs.Units.{◌⊕◌, ◌⊗◌}
use Rattle.tariff.specs.Caps.{built_in, caps_on}
use Rattle.tariff.specs.Charges.{counted_kb, home_charges_of, surcharges_of}
use Rattle.tariff.proofs.Sums.{⊕-assoc, ⊗-⊕, at_most_sum}
use Rattle.tariff.proofs.ChargeLaws.{counted_adds, billed_adds, after_allowance_adds, home_charges_grow, surcharges_grow}
use Rattle.presence.specs.declared.ServiceState.{ServiceState}
use Rattle.presence.specs.declared.ServiceState.TheVariants.{Clear, Warned, Surcharged}
use Rattle.presence.specs.declared.Services.{Services}
use Rattle.presence.proofs.Marks.{day_adds}
use Rattle.state.specs.declared.State.{State}
use Rattle.state.specs.Use.{billable, roaming, billed_of, surcharged_of, surcharged_units, billed_after, newly_surcharged, basis_after, home_after, extra_after, cost, spent}
use Rattle.std.specs.Prelude.{Option, Some, None}
use Rattle.tariff.specs.declared.Place.{Place}

pub billable_adds : (w : Option Place) (u v : Units) → billable w u ⊕ billable w v ≡ billable w (u ⊕ v)
unfolding billable
billable_adds None u v = refl
billable_adds (Some Home) u v = refl
billable_adds (Some Zone) u v = refl
billable_adds (Some Elsewhere) u v = refl

pub roaming_adds : (w : Option Place) (u v : Units) → roaming w u ⊕ roaming w v ≡ roaming w (u ⊕ v)
unfolding roaming
roaming_adds None u v = refl
roaming_adds (Some Home) u v = refl
roaming_adds (Some Zone) u v = refl
roaming_adds (Some Elsewhere) u v = refl

part_adds : (s : ServiceState) (x y m n : ℕ) → surcharged_of s x m + surcharged_of s y n ≡ surcharged_of s (x + y) (m + n)
unfolding surcharged_of
part_adds Clear x y m n = refl
part_adds (Warned k) x y m n = refl
part_adds Surcharged x y m n = refl

pub billed_of_adds : (p : Plan) (h : ℕ) (u v : Units) → billed_of p h u ⊕ billed_of p (h + counted_kb p.form u.kb) v ≡ billed_of p h (u ⊕ v)
unfolding billed_of
billed_of_adds p h u v = simp billed_adds

pub surcharged_adds : (s : Services) (l : Option ℕ) (r : ℕ) (u v : Units) → surcharged_units s l r u ⊕ surcharged_units s l (r + u.kb) v ≡ surcharged_units s l r (u ⊕ v)
unfolding surcharged_units
surcharged_adds s l r u v = simp (part_adds, after_allowance_adds)

-- both charges are what the sums come to
pub record Worked (a : State) : Type 0 where
  pub home_is : a.money.homecharges ≡ home_charges_of a.plan a.meters.billed
  pub extra_is : a.money.surcharges ≡ surcharges_of a.meters.basis

pub home_grows : (a : State) (c : Units) → Worked a → a.money.homecharges ≤ home_after a c
unfolding home_after
home_grows a c w = omega (arith, w.home_is, home_charges_grow a.plan a.meters.billed (billed_after a c) (unfold billed_after in at_most_sum a.meters.billed _))

pub extra_grows : (a : State) (c : Units) → Worked a → a.money.surcharges ≤ extra_after a c
unfolding extra_after
extra_grows a c w = omega (arith, w.extra_is, surcharges_grow a.meters.basis (basis_after a c) (unfold basis_after in at_most_sum a.meters.basis _))

pub sub_sum : (x y z : ℕ) → x - y - z ≡ x - (y + z)
sub_sum x y z = omega arith

-- u units charged as c, then v charged as d
module _ (a : State) (u c v d : Units) where
  billed_add : billed_after (spent a u c) d ≡ billed_after a (c ⊕ d)
  unfolding billed_after spent
  billed_add =
      ⊕-assoc a.meters.billed _ _ ∙ ap (λ (x : Units). a.meters.billed ⊕ x)
      (billed_of_adds a.plan a.quota.monthly (billable a.place c) (billable a.place d) ∙ ap (billed_of a.plan a.quota.monthly) (billable_adds a.place c d))

  surcharged_add : newly_surcharged a c ⊕ newly_surcharged (spent a u c) d ≡ newly_surcharged a (c ⊕ d)
  unfolding newly_surcharged spent
  surcharged_add =
      surcharged_adds a.services a.quota.allowance a.quota.roamed (roaming a.place c) (roaming a.place d)
      ∙ ap (surcharged_units a.services a.quota.allowance a.quota.roamed) (roaming_adds a.place c d)

  basis_add : basis_after (spent a u c) d ≡ basis_after a (c ⊕ d)
  unfolding basis_after spent
  basis_add =
      ⊕-assoc a.meters.basis _ _ ∙ ap (λ (x : Units). a.meters.basis ⊕ x)
      (⊗-⊕ (caps_on built_in a.day) (newly_surcharged a c) (newly_surcharged (spent a u c) d) ∙ ap (λ (x : Units). caps_on built_in a.day ⊗ x) surcharged_add)

  home_add : home_after (spent a u c) d ≡ home_after a (c ⊕ d)
  unfolding home_after spent
  home_add = ap (home_charges_of a.plan) billed_add

  extra_add : extra_after (spent a u c) d ≡ extra_after a (c ⊕ d)
  unfolding extra_after
  extra_add = ap surcharges_of basis_add

  pub spent_worked : Worked (spent a u c)
  unfolding spent home_after extra_after
  spent_worked = record { home_is = refl; extra_is = refl }

  spent_home : (spent a u c).money.homecharges ≡ home_after a c
  unfolding spent
  spent_home = refl

  spent_extra : (spent a u c).money.surcharges ≡ extra_after a c
  unfolding spent
  spent_extra = refl

  cost_add : Worked a → cost a c + cost (spent a u c) d ≡ cost a (c ⊕ d)
  unfolding cost
  cost_add w =
      let h₀ : a.money.homecharges ≤ home_after a c = home_grows a c w in
      let h₁ : (spent a u c).money.homecharges ≤ home_after (spent a u c) d = home_grows (spent a u c) d spent_worked in
      let e₀ : a.money.surcharges ≤ extra_after a c = extra_grows a c w in
      let e₁ : (spent a u c).money.surcharges ≤ extra_after (spent a u c) d = extra_grows (spent a u c) d spent_worked in
      omega (arith, home_add, extra_add, spent_home, spent_extra)

  roamed_add : (spent (spent a u c) v d).quota.roamed ≡ (spent a (u ⊕ v) (c ⊕ d)).quota.roamed
  unfolding spent
  roamed_add = add_assoc _ _ _ ∙ ap (λ (x : Units). a.quota.roamed + x.kb) (roaming_adds a.place c d)

  monthly_add : (spent (spent a u c) v d).quota.monthly ≡ (spent a (u ⊕ v) (c ⊕ d)).quota.monthly
  unfolding spent
  monthly_add = add_assoc _ _ _ ∙ ap (λ (x : ℕ). a.quota.monthly + x)
      (counted_adds a.plan.form _ _ ∙ ap (λ (x : Units). counted_kb a.plan.form x.kb) (billable_adds a.place c d))

  pub spent_adds : Worked a → spent (spent a u c) v d ≡ spent a (u ⊕ v) (c ⊕ d)
  unfolding spent
  spent_adds w = λ i. record {
    plan = a.plan;
    day = a.day;
    place = a.place;
    money = record {
      credit = (sub_sum a.money.credit (cost a c) (cost (spent a u c) d) ∙ ap (λ (x : ℕ). a.money.credit - x) (cost_add w)) i;
      paid = a.money.paid;
      homecharges = home_add i;
      surcharges = extra_add i;
    };
    meters = record {
      lifetime = ⊕-assoc a.meters.lifetime u v i;
      chargedseconds = add_assoc a.meters.chargedseconds c.outgoing d.outgoing i;
      billed = billed_add i;
      surcharged = (⊕-assoc a.meters.surcharged (newly_surcharged a c) (newly_surcharged (spent a u c) d) ∙ ap (λ (x : Units). a.meters.surcharged ⊕ x) surcharged_add) i;
      basis = basis_add i;
    };
    quota = record {
      monthly = monthly_add i;
      roamed = roamed_add i;
      allowance = a.quota.allowance;
    };
    today = day_adds a.place u v a.today i;
    logged = a.logged;
    services = a.services;
  }
