-- The journal's sums of a month, from one day to the next. Assumes nothing.
use Prim.Native.Nat.{ℕ, suc, ◌≤◌, ◌<◌}
use mathlib.Core.Path.{◌≡◌, refl, sym, ◌∙◌}
use mathlib.Core.Bool.{Bool, true, false, not, cond, ◌&&◌}
use mathlib.Core.List.{List, [], ◌∷◌}
use native.Mathlib.Nat.{add-zero}
use native.Mathlib.Omega.{arith}
use lib.Dec.{eqb}
use borrow.Author.Tests.{eq-eqb, ne_eqb}
use Rattle.calendar.specs.Calendar.{starts_month, month_of}
use Rattle.calendar.proofs.Laws.{month_same, month_later, month_mono}
use Rattle.tariff.specs.declared.Form.{Form}
use Rattle.tariff.specs.declared.Form.TheVariants.{Prepaid, Bundle, Unlimited}
use Rattle.tariff.specs.declared.Plan.{Plan}
use Rattle.tariff.specs.Plan.{is_prepaid}
use Rattle.tariff.specs.Charges.{counted_kb}
use Rattle.state.specs.Moves.{turns_month}
use Rattle.account.specs.declared.Call.TheVariants.{NextDay}
use Rattle.ledger.specs.Journal.{Entry, Opening, home_part, of_month, month_before, monthly_kb, changes_month, zone_of_month, journal_roamed}
use Rattle.ledger.proofs.Quiet.{of_month_none}

-- every entry's day is at most d
pub data Upto (d : ℕ) : List Entry → Type 0 where
  nil : Upto d []
  cons : {i : Entry} {is : List Entry} → i.day ≤ d → Upto d is → Upto d (i ∷ is)

pub upto_suc : {d : ℕ} {is : List Entry} → Upto d is → Upto (suc d) is
upto_suc nil = nil
upto_suc (cons {i = i} h t) = cons {i = i} (omega arith) (upto_suc t)

-- the same month: the same sums; another month: nothing yet
of_month_again : (d e : ℕ) (i : Entry) (n : ℕ) → month_of d ≡ month_of e → of_month d i n ≡ of_month e i n
unfolding of_month
of_month_again d e i n m = rw m

of_month_new : (d : ℕ) (i : Entry) (n : ℕ) → i.day ≤ d → month_of d < month_of (suc d) → of_month (suc d) i n ≡ 0
unfolding of_month
of_month_new d i n h m = rw (ne_eqb (month_of i.day) (month_of (suc d)) (λ e. omega (arith, month_mono i.day d h)))

before_again : (o : Opening) (d e n : ℕ) → month_of d ≡ month_of e → month_before o d n ≡ month_before o e n
unfolding month_before
before_again o d e n m = rw m

before_new : (o : Opening) (d n : ℕ) → o.day ≤ d → month_of d < month_of (suc d) → month_before o (suc d) n ≡ 0
unfolding month_before
before_new o d n h m = rw (ne_eqb (month_of o.day) (month_of (suc d)) (λ e. omega (arith, month_mono o.day d h)))

monthly_again : (o : Opening) (d e : ℕ) (is : List Entry) → month_of d ≡ month_of e → monthly_kb o d is ≡ monthly_kb o e is
unfolding monthly_kb
monthly_again o d e [] m = rw (before_again o d e o.monthly m)
monthly_again o d e (i ∷ is) m = rw (monthly_again o d e is m, of_month_again d e i _ m)

monthly_new : (o : Opening) (d : ℕ) (is : List Entry) → is_prepaid o.plan.form ≡ false → o.day ≤ d → Upto d is → month_of d < month_of (suc d) → monthly_kb o (suc d) is ≡ 0
unfolding monthly_kb
monthly_new o d [] f s nil m = rw f (before_new o d o.monthly s m)
monthly_new o d (i ∷ is) f s (cons h t) m = rw (monthly_new o d is f s t m, of_month_new d i _ h m)

zone_again : (o : Opening) (d e : ℕ) (is : List Entry) → month_of d ≡ month_of e → zone_of_month o d is ≡ zone_of_month o e is
unfolding zone_of_month
zone_again o d e [] m = before_again o d e o.roamed m
zone_again o d e (i ∷ is) m = rw (zone_again o d e is m, of_month_again d e i _ m)

zone_new : (o : Opening) (d : ℕ) (is : List Entry) → o.day ≤ d → Upto d is → month_of d < month_of (suc d) → zone_of_month o (suc d) is ≡ 0
unfolding zone_of_month
zone_new o d [] s nil m = before_new o d o.roamed s m
zone_new o d (i ∷ is) s (cons h t) m = rw (zone_new o d is s t m, of_month_new d i _ h m)

counted_prepaid : (f : Form) (n : ℕ) → is_prepaid f ≡ true → counted_kb f n ≡ 0
unfolding counted_kb
counted_prepaid Prepaid n e = refl
counted_prepaid Bundle n e = cc
counted_prepaid Unlimited n e = cc

monthly_prepaid : (o : Opening) (d : ℕ) (is : List Entry) → is_prepaid o.plan.form ≡ true → monthly_kb o d is ≡ o.monthly
unfolding monthly_kb
monthly_prepaid o d [] e = rw e
monthly_prepaid o d (i ∷ is) e = rw (monthly_prepaid o d is e, counted_prepaid o.plan.form (home_part i).kb e, of_month_none) (add-zero o.monthly)

-- the month's sums on the next day
module _ (o : Opening) (d : ℕ) (is : List Entry) (s : o.day ≤ d) (t : Upto d is) where
  pub monthly_next : monthly_kb o (suc d) is ≡ cond (turns_month o.plan (suc d)) 0 (monthly_kb o d is)
  unfolding turns_month
  monthly_next = go (is_prepaid o.plan.form) refl (starts_month (suc d)) refl
    where
      go : (b : Bool) → is_prepaid o.plan.form ≡ b → (c : Bool) → starts_month (suc d) ≡ c → monthly_kb o (suc d) is ≡ cond (turns_month o.plan (suc d)) 0 (monthly_kb o d is)
      go true e c f = rw e (monthly_prepaid o (suc d) is e ∙ sym (monthly_prepaid o d is e))
      go false e false f = rw (e, f) (monthly_again o (suc d) d is (month_same d f))
      go false e true f = rw (e, f) (monthly_new o d is e s t (month_later d f))

  pub roamed_next : journal_roamed o (suc d) is ≡ cond (turns_month o.plan (suc d)) 0 (journal_roamed o d is)
  unfolding turns_month journal_roamed
  roamed_next = go (is_prepaid o.plan.form) refl (starts_month (suc d)) refl
    where
      go : (b : Bool) → is_prepaid o.plan.form ≡ b → (c : Bool) → starts_month (suc d) ≡ c → journal_roamed o (suc d) is ≡ cond (turns_month o.plan (suc d)) 0 (journal_roamed o d is)
      go true e c f = rw e
      go false e false f = rw (e, f) (zone_again o (suc d) d is (month_same d f))
      go false e true f = rw (e, f) (zone_new o d is s t (month_later d f))

-- the account's test for a new month is the journal's
pub turns_is : (p : Plan) (d : ℕ) → turns_month p (suc d) ≡ changes_month p d NextDay
unfolding turns_month changes_month
turns_is p d = go (starts_month (suc d)) refl
  where
    go : (c : Bool) → starts_month (suc d) ≡ c → not (is_prepaid p.form) && starts_month (suc d) ≡ not (is_prepaid p.form) && not (eqb (month_of (suc d)) (month_of d))
    go false f = rw (f, eq-eqb (month_of (suc d)) (month_of d) (month_same d f))
    go true f = rw (f, ne_eqb (month_of (suc d)) (month_of d) (λ e. omega (arith, month_later d f)))
