-- The journal's days: their marks and units, one entry at a time, the days before today, and the services. Assumes nothing.
use Prim.Native.Nat.{ℕ, zero, suc, ◌+◌, ◌≤◌}
use mathlib.Core.Path.{◌≡◌, refl, sym, ◌∙◌, ap}
use mathlib.Core.Bool.{Bool, true, false, cond, ◌&&◌, ◌||◌}
use mathlib.Core.List.{List, [], ◌∷◌, ◌++◌}
use native.Mathlib.Nat.{add-zero}
use native.Mathlib.Omega.{arith}
use lib.Dec.{eqb, lit≤}
use lib.Seq.{take-take}
use borrow.Author.Tests.{eq-eqb, ne_eqb}
use Rattle.tariff.specs.declared.Kind.{Kind}
use Rattle.tariff.specs.declared.Place.{Place}
use Rattle.tariff.specs.declared.Place.TheVariants.{Home, Zone, Elsewhere}
use Rattle.tariff.specs.Units.{zero_units, ◌⊕◌, only}
use Rattle.presence.specs.declared.Day.{Day}
use Rattle.presence.specs.Day.{empty_day, mark_day, add_day, joined}
use Rattle.account.specs.declared.Call.{Call}
use Rattle.account.specs.declared.Call.TheVariants.{Register, Use}
use Rattle.ledger.specs.Lists.{units_of, marks}
use Rattle.ledger.specs.Journal.{Entry, Opening, at_place, marked_on, used_on, day_of, days, last_days, journal_services}
use Rattle.ledger.proofs.Quiet.{⊕-zero}
use Rattle.ledger.proofs.Months.{Upto, nil, cons}
use Rattle.std.specs.Prelude.{Option, Some, None}

-- an entry of another day leaves a day as it is
marked_skip : (o : Opening) (d : ℕ) (p : Place) (i : Entry) (is : List Entry) → eqb i.day d ≡ false → marked_on o d p (i ∷ is) ≡ marked_on o d p is
unfolding marked_on
marked_skip o d p i is h = rw h refl

used_skip : (o : Opening) (d : ℕ) (p : Place) (i : Entry) (is : List Entry) → eqb i.day d ≡ false → used_on o d p (i ∷ is) ≡ used_on o d p is
unfolding used_on
used_skip o d p i is h = rw h refl

pub day_skip : (o : Opening) (d : ℕ) (i : Entry) (is : List Entry) → eqb i.day d ≡ false → day_of o d (i ∷ is) ≡ day_of o d is
unfolding day_of
day_skip o d i is h = λ j. record {
  home = marked_skip o d Home i is h j;
  zone = marked_skip o d Zone i is h j;
  elsewhere = marked_skip o d Elsewhere i is h j;
  athome = used_skip o d Home i is h j;
  inzone = used_skip o d Zone i is h j;
  outside = used_skip o d Elsewhere i is h j;
}

days_skip : (o : Opening) (k : ℕ) (i : Entry) (is : List Entry) → o.day + k ≤ i.day → days o k (i ∷ is) ≡ days o k is
unfolding days
days_skip o zero i is h = refl
days_skip o (suc k) i is h = rw (day_skip o (o.day + k) i is (ne_eqb i.day (o.day + k) (λ e. omega arith)), days_skip o k i is (omega arith))

pub log_skip : (o : Opening) (k : ℕ) (i : Entry) (is : List Entry) → o.day + k ≤ i.day → last_days o (days o k (i ∷ is)) ≡ last_days o (days o k is)
log_skip o k i is h = ap (last_days o) (days_skip o k i is h)

pub services_skip : (o : Opening) (k : ℕ) (i : Entry) (is : List Entry) → o.day + k ≤ i.day → journal_services o k (i ∷ is) ≡ journal_services o k is
unfolding journal_services
services_skip o zero i is h = refl
services_skip o (suc k) i is h = rw (services_skip o k i is (omega arith), days_skip o (suc k) i is h)

-- a day after all entries is empty
pub day_none : (o : Opening) (d : ℕ) (is : List Entry) → o.day ≤ d → Upto d is → day_of o (suc d) is ≡ empty_day
unfolding day_of marked_on used_on
day_none o d [] s nil = rw (ne_eqb o.day (suc d) (λ e. omega arith)) refl
day_none o d (i ∷ is) s (cons h t) = day_skip o (suc d) i is (ne_eqb i.day (suc d) (λ e. omega arith)) ∙ day_none o d is s t

-- an entry of today: a use marks and adds, a registration marks, the others do neither
module _ (o : Opening) (is : List Entry) (d : ℕ) where
  pub day_use : (k : Kind) (n : ℕ) (w : Option Place)
      → add_day w (only k n) (mark_day w (day_of o d is)) ≡ day_of o d (record { call = Use k n; day = d; place = w } ∷ is)
  unfolding day_of marked_on used_on marks at_place add_day mark_day units_of
  day_use k n None = rw (eq-eqb d d refl) refl
  day_use k n (Some Home) = rw (eq-eqb d d refl) refl
  day_use k n (Some Zone) = rw (eq-eqb d d refl) refl
  day_use k n (Some Elsewhere) = rw (eq-eqb d d refl) refl

  pub day_register : (q : Place) → mark_day (Some q) (day_of o d is) ≡ day_of o d (record { call = Register q; day = d; place = Some q } ∷ is)
  unfolding day_of marked_on used_on marks at_place mark_day units_of
  day_register Home = rw (eq-eqb d d refl) (simp add-zero)
  day_register Zone = rw (eq-eqb d d refl) (simp add-zero)
  day_register Elsewhere = rw (eq-eqb d d refl) (simp add-zero)

  used_quiet : (c : Call) (p : Place) (w : Option Place) → units_of c ≡ zero_units → used_on o d p is ≡ used_on o d p (record { call = c; day = d; place = w } ∷ is)
  unfolding used_on
  used_quiet c p w e = rw e (go (eqb d d && at_place p w))
    where
      go : (b : Bool) → used_on o d p is ≡ cond b (used_on o d p is ⊕ zero_units) (used_on o d p is)
      go true = sym (⊕-zero (used_on o d p is))
      go false = refl

  marked_quiet : (c : Call) (p : Place) (w : Option Place) → marks c ≡ false → marked_on o d p is ≡ marked_on o d p (record { call = c; day = d; place = w } ∷ is)
  unfolding marked_on
  marked_quiet c p w e = rw e (go (eqb d d))
    where
      go : (b : Bool) → marked_on o d p is ≡ (b && false) || marked_on o d p is
      go true = refl
      go false = refl

  pub day_quiet : (c : Call) (w : Option Place) → units_of c ≡ zero_units → marks c ≡ false → day_of o d is ≡ day_of o d (record { call = c; day = d; place = w } ∷ is)
  unfolding day_of
  day_quiet c w e f = λ j. record {
    home = marked_quiet c Home w f j;
    zone = marked_quiet c Zone w f j;
    elsewhere = marked_quiet c Elsewhere w f j;
    athome = used_quiet c Home w e j;
    inzone = used_quiet c Zone w e j;
    outside = used_quiet c Elsewhere w e j;
  }

pub joined_last : (o : Opening) (d : Day) (ds : List Day) → joined d (last_days o ds) ≡ last_days o (d ∷ ds)
unfolding joined last_days
joined_last o d ds = ap (λ (l : List Day). d ∷ l) (take-take 122 123 (ds ++ o.days) (lit≤ tt))
