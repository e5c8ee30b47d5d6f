-- An entry without units changes no sum of the journal. Assumes nothing.
use Prim.Native.Nat.{ℕ}
use mathlib.Core.Path.{◌≡◌, refl, ◌∙◌, ap}
use mathlib.Core.Bool.{Bool, true, false, cond}
use mathlib.Core.List.{List, ◌∷◌}
use native.Mathlib.Nat.{add-zero, mul-zero}
use native.Mathlib.Omega.{arith}
use lib.Dec.{eqb}
use borrow.Author.Tests.{eq-eqb}
use Rattle.calendar.specs.Calendar.{month_of}
use Rattle.tariff.specs.declared.Units.{Units}
use Rattle.tariff.specs.declared.Place.TheVariants.{Home, Zone, Elsewhere}
use Rattle.tariff.specs.declared.Form.{Form}
use Rattle.tariff.specs.declared.Form.TheVariants.{Prepaid, Bundle, Unlimited}
use Rattle.tariff.specs.declared.Plan.{Plan}
use Rattle.tariff.specs.Units.{zero_units, ◌⊕◌, ◌⊗◌}
use Rattle.tariff.specs.Caps.{built_in, caps_on}
use Rattle.tariff.specs.Plan.{is_prepaid}
use Rattle.tariff.specs.Charges.{after_first, billed_kb, counted_kb, after_allowance}
use Rattle.presence.specs.declared.ServiceState.{ServiceState}
use Rattle.presence.specs.declared.ServiceState.TheVariants.{Clear, Warned, Surcharged}
use Rattle.presence.specs.declared.Services.{Services}
use Rattle.state.specs.Use.{billable, roaming, billed_of, surcharged_of, surcharged_units}
use Rattle.account.specs.declared.Call.{Call}
use Rattle.account.specs.declared.Call.TheVariants.{Register, Use, TopUp, NextDay, Afford}
use Rattle.ledger.specs.Journal.{Entry, Opening, charged_of, home_part, zone_part, of_month, monthly_kb, billed_units, last_place, sets_allowance, zone_of_month, zone_since, journal_roamed, journal_basis}
use Rattle.std.specs.Prelude.{Option, Some, None}
use Rattle.tariff.specs.declared.Place.{Place}

-- no units: nothing is priced, surcharged or counted
billable_none : (w : Option Place) → billable w zero_units ≡ zero_units
unfolding billable
billable_none None = refl
billable_none (Some Home) = refl
billable_none (Some Zone) = refl
billable_none (Some Elsewhere) = refl

roaming_none : (w : Option Place) → roaming w zero_units ≡ zero_units
unfolding roaming
roaming_none None = refl
roaming_none (Some Home) = refl
roaming_none (Some Zone) = refl
roaming_none (Some Elsewhere) = refl

after_first_none : (l r : ℕ) → after_first l r 0 ≡ 0
unfolding after_first
after_first_none l r = omega arith

billed_kb_none : (f : Form) (v h : ℕ) → billed_kb f v h 0 ≡ 0
unfolding billed_kb
billed_kb_none Prepaid v h = refl
billed_kb_none Bundle v h = after_first_none v h
billed_kb_none Unlimited v h = refl

billed_none : (p : Plan) (h : ℕ) → billed_of p h zero_units ≡ zero_units
unfolding billed_of
billed_none p h = simp billed_kb_none

after_allowance_none : (l : Option ℕ) (r : ℕ) → after_allowance l r 0 ≡ 0
unfolding after_allowance
after_allowance_none None r = refl
after_allowance_none (Some l) r = after_first_none l r

part_none : (s : ServiceState) → surcharged_of s 0 0 ≡ 0
unfolding surcharged_of
part_none Clear = refl
part_none (Warned k) = refl
part_none Surcharged = refl

surcharged_none : (s : Services) (l : Option ℕ) (r : ℕ) → surcharged_units s l r zero_units ≡ zero_units
unfolding surcharged_units
surcharged_none s l r = simp (after_allowance_none, part_none)

counted_none : (f : Form) → counted_kb f 0 ≡ 0
unfolding counted_kb
counted_none Prepaid = refl
counted_none Bundle = refl
counted_none Unlimited = refl

pub of_month_none : (d : ℕ) (i : Entry) → of_month d i 0 ≡ 0
unfolding of_month
of_month_none d i = go (eqb (month_of i.day) (month_of d))
  where
    go : (b : Bool) → ◌≡◌ {A = ℕ} (cond b 0 0) 0
    go true = refl
    go false = refl

pub of_month_same : (i : Entry) (n : ℕ) → of_month i.day i n ≡ n
unfolding of_month
of_month_same i n = rw (eq-eqb (month_of i.day) (month_of i.day) refl)

pub ⊕-zero : (u : Units) → u ⊕ zero_units ≡ u
⊕-zero u = simp add-zero

⊗-zero : (u : Units) → u ⊗ zero_units ≡ zero_units
⊗-zero u = simp mul-zero

-- only a prepaid plan's calls set its allowance
sets_bundle : (f : Form) (w : Option Place) (c : Call) → is_prepaid f ≡ false → sets_allowance f w c ≡ false
unfolding sets_allowance
sets_bundle f w (Register q) e = rw e
sets_bundle f w (Use k n) e = refl
sets_bundle f w (TopUp n) e = rw e
sets_bundle f w NextDay e = refl
sets_bundle f w (Afford k) e = refl

sets_prepaid : (f : Form) (w : Option Place) (c : Call) → is_prepaid f ≡ true → sets_allowance f w c ≡ sets_allowance Prepaid w c
unfolding sets_allowance
sets_prepaid f w (Register q) e = rw e
sets_prepaid f w (Use k n) e = refl
sets_prepaid f w (TopUp n) e = rw e
sets_prepaid f w NextDay e = refl
sets_prepaid f w (Afford k) e = refl

module _ (i : Entry) (is : List Entry) (e : (w : Option Place) → charged_of w i.call ≡ zero_units) where
  home_none : home_part i ≡ zero_units
  unfolding home_part
  home_none = rw e (billable_none i.place)

  zone_none : zone_part i ≡ zero_units
  unfolding zone_part
  zone_none = rw e (roaming_none i.place)

  pub billed_quiet : (o : Opening) → billed_units o (i ∷ is) ≡ billed_units o is
  unfolding billed_units
  billed_quiet o =
      ap (λ (x : Units). billed_units o is ⊕ x) (ap (billed_of o.plan (monthly_kb o i.day is)) home_none ∙ billed_none o.plan _) ∙ ⊕-zero (billed_units o is)

  pub basis_quiet : (o : Opening) → journal_basis o (i ∷ is) ≡ journal_basis o is
  unfolding journal_basis
  basis_quiet o =
      ap (λ (x : Units). journal_basis o is ⊕ caps_on built_in i.day ⊗ x) (ap (surcharged_units _ _ _) zone_none ∙ surcharged_none _ _ _)
      ∙ ap (λ (x : Units). journal_basis o is ⊕ x) (⊗-zero (caps_on built_in i.day)) ∙ ⊕-zero (journal_basis o is)

  pub monthly_quiet : (o : Opening) (d : ℕ) → monthly_kb o d (i ∷ is) ≡ monthly_kb o d is
  unfolding monthly_kb
  monthly_quiet o d = simp (home_none, counted_none, of_month_none, add-zero)

  zone_month_quiet : (o : Opening) (d : ℕ) → zone_of_month o d (i ∷ is) ≡ zone_of_month o d is
  unfolding zone_of_month
  zone_month_quiet o d = simp (zone_none, of_month_none, add-zero)

  since_quiet : (o : Opening) → zone_since o (i ∷ is) ≡ cond (sets_allowance Prepaid (last_place o is) i.call) 0 (zone_since o is)
  unfolding zone_since
  since_quiet o = simp (zone_none, add-zero)

  pub roamed_quiet : (o : Opening) (d : ℕ) → journal_roamed o d (i ∷ is) ≡ cond (sets_allowance o.plan.form (last_place o is) i.call) 0 (journal_roamed o d is)
  unfolding journal_roamed
  roamed_quiet o d = go (is_prepaid o.plan.form) refl
    where
      go : (b : Bool) → is_prepaid o.plan.form ≡ b
          → journal_roamed o d (i ∷ is) ≡ cond (sets_allowance o.plan.form (last_place o is) i.call) 0 (journal_roamed o d is)
      go true f = rw (f, sets_prepaid o.plan.form (last_place o is) i.call f) (since_quiet o)
      go false f = rw (f, sets_bundle o.plan.form (last_place o is) i.call f) (zone_month_quiet o d)
