-- A day's month: the same as the day before's unless the day starts a month, then a later one; and it never goes back.
-- Shown by counts of any tests below any bound, so the table plays no part. Assumes nothing.
use mathlib.Core.Path.{◌≡◌, refl, ap, ap₂, subst}
use mathlib.Core.Bool.{Bool, true, false, cond, ◌||◌, false≢true}
use mathlib.Core.Logic.{⊎_elim}
use Prim.Native.Nat.{ℕ, zero, suc, ◌+◌, ◌<◌, ◌≤◌}
use native.Mathlib.Nat.{eq-or-lt_of_le, le_of_suc-le-suc, not-suc-le-zero}
use native.Mathlib.Omega.{arith}
use lib.Dec.{leb, eqb}
use borrow.Author.Tests.{leb-true, leb-false, eqb-true, eqb-false, le-leb, lt-leb}
use Rattle.calendar.specs.Calendar.{first_day, any_below, count_below, starts_month, month_of}

pub or_left : (a b : Bool) → a || b ≡ false → a ≡ false
or_left true b e = e
or_left false b e = refl

pub or_right : (a b : Bool) → a || b ≡ false → b ≡ false
or_right true b e = cc
or_right false b e = e

or_yes : (a b : Bool) → b ≡ true → a || b ≡ true
or_yes true b e = refl
or_yes false b e = e

one_le : (a b : Bool) → (a ≡ true → b ≡ true) → cond a 1 0 ≤ cond b 1 0
one_le true b h = rw (h refl) (omega arith)
one_le false b h = omega arith

-- some number below n passes where the one at k does
pub any_at : (n : ℕ) (f : ℕ → Bool) (k : ℕ) → k < n → f k ≡ true → any_below n f ≡ true
unfolding any_below
any_at zero f k h e = absurd (not-suc-le-zero h)
any_at (suc n) f k h e =
    ⊎_elim (λ q. or_yes (any_below n f) (f n) (subst (λ (m : ℕ). f m ≡ true) q e)) (λ l. rw (any_at n f k l e) refl)
    (eq-or-lt_of_le (le_of_suc-le-suc h))

-- and none passes where each of them fails
pub any_none : (n : ℕ) (f : ℕ → Bool) → ((m : ℕ) → m < n → f m ≡ false) → any_below n f ≡ false
unfolding any_below
any_none zero f h = refl
any_none (suc n) f h = rw (any_none n f (λ m l. h m (omega arith)), h n (omega arith)) refl

-- a test that passes wherever another does passes at least as often
pub count_mono : (n : ℕ) (f g : ℕ → Bool) → ((m : ℕ) → f m ≡ true → g m ≡ true) → count_below n f ≤ count_below n g
unfolding count_below
count_mono zero f g h = omega arith
count_mono (suc n) f g h = omega (arith, count_mono n f g h, one_le (f n) (g n) (h n))

-- two tests that differ only where a third passes, which passes nowhere below n, pass equally often
pub count_same : (n : ℕ) (f g s : ℕ → Bool) → ((m : ℕ) → s m ≡ false → f m ≡ g m) → any_below n s ≡ false → count_below n f ≡ count_below n g
unfolding any_below count_below
count_same zero f g s h e = refl
count_same (suc n) f g s h e =
    ap₂ ◌+◌ (count_same n f g s h (or_left (any_below n s) (s n) e))
    (ap (λ (b : Bool). cond b 1 0) (h n (or_right (any_below n s) (s n) e)))

-- where the third passes, the first test fails and the second passes: then the second passes more often
pub count_more : (n : ℕ) (f g s : ℕ → Bool) → ((m : ℕ) → f m ≡ true → g m ≡ true) → ((m : ℕ) → s m ≡ true → f m ≡ false)
    → ((m : ℕ) → s m ≡ true → g m ≡ true) → any_below n s ≡ true → count_below n f < count_below n g
unfolding any_below count_below
count_more zero f g s h p q e = absurd (false≢true e)
count_more (suc n) f g s h p q e = go (any_below n s) e (count_more n f g s h p q)
  where
    go : (b : Bool) → b || s n ≡ true → (b ≡ true → count_below n f < count_below n g)
        → count_below n f + cond (f n) 1 0 < count_below n g + cond (g n) 1 0
    go true t ih = omega (arith, ih refl, one_le (f n) (g n) (h n))
    go false t ih = rw (p n t, q n t) (omega (arith, count_mono n f g h))

-- a month that has begun stays begun
begun_on : (d e x : ℕ) → d ≤ e → leb x d ≡ true → leb x e ≡ true
begun_on d e x h t = le-leb x e (omega (arith, leb-true x d t))

-- a number other than d + 1 is at most d + 1 just where it is at most d
begun_same : (d x : ℕ) → eqb x (suc d) ≡ false → leb x (suc d) ≡ leb x d
begun_same d x e = go (leb x d) refl
  where
    go : (b : Bool) → leb x d ≡ b → leb x (suc d) ≡ b
    go true t = le-leb x (suc d) (omega (arith, leb-true x d t))
    go false t = lt-leb x (suc d) (omega (arith, leb-false x d t, eqb-false x (suc d) e))

-- a day that starts no month is of the month of the day before
pub month_same : (d : ℕ) → starts_month (suc d) ≡ false → month_of (suc d) ≡ month_of d
unfolding month_of starts_month
month_same d e =
    count_same 132 (λ m. leb (first_day m) (suc d)) (λ m. leb (first_day m) d) (λ m. eqb (first_day m) (suc d))
    (λ m t. begun_same d (first_day m) t) e

-- a day that starts a month is of a later month than the day before
pub month_later : (d : ℕ) → starts_month (suc d) ≡ true → month_of d < month_of (suc d)
unfolding month_of starts_month
month_later d e =
    count_more 132 (λ m. leb (first_day m) d) (λ m. leb (first_day m) (suc d)) (λ m. eqb (first_day m) (suc d))
    (λ m t. begun_on d (suc d) (first_day m) (omega arith) t)
    (λ m t. lt-leb (first_day m) d (omega (arith, eqb-true (first_day m) (suc d) t)))
    (λ m t. le-leb (first_day m) (suc d) (omega (arith, eqb-true (first_day m) (suc d) t)))
    e

-- a day's month never goes back
pub month_mono : (d e : ℕ) → d ≤ e → month_of d ≤ month_of e
unfolding month_of
month_mono d e h = count_mono 132 (λ m. leb (first_day m) d) (λ m. leb (first_day m) e) (λ m t. begun_on d e (first_day m) h t)
