-- Acceptance falls as a use grows, so that halving finds the largest. Assumes nothing.
use Prim.Native.Nat.{ℕ, zero, suc, ◌≤◌, ◌<◌}
use mathlib.Core.Path.{◌≡◌, refl, sym, ◌∙◌}
use mathlib.Core.Bool.{Bool, true, false, not, cond, ◌&&◌}
use native.Mathlib.Omega.{arith}
use lib.Dec.{leb, ltb, eqb}
use borrow.Author.Tests.{le-leb, lt-leb, eqb-true, eqb-false}
use Rattle.tariff.specs.declared.Kind.{Kind}
use Rattle.tariff.specs.Tests.{verdict_of, is_accepted}
use Rattle.tariff.proofs.Tests.{and-false}
use Rattle.presence.specs.Day.{is_placed}
use Rattle.state.specs.declared.State.{State}
use Rattle.quotes.specs.declared.Quote.{Quote}
use Rattle.state.specs.Needs.{Steady}
use Rattle.quotes.specs.Quotes.{quote_of, within_quote}
use Rattle.quotes.proofs.Quoting.{within_is, within_less}
use Rattle.state.specs.Use.{charged_units, cost}
use Rattle.state.specs.Reasons.{overfills, use_reasons}
use Rattle.account.specs.Largest.{largest, use_accepted, most_units}
use Rattle.std.specs.Prelude.{Ok, Err}
use Rattle.tariff.specs.declared.Refusal.TheVariants.{Unplaced, UnitCount, MeterFull, OverCredit}

-- r is the largest that passes, from 1 to n
pub largest_is : (test : ℕ → Bool) (n r : ℕ) → r ≤ n → (0 < r → test r ≡ true) → ((m : ℕ) → r < m → m ≤ n → test m ≡ false) → r ≡ largest test n
unfolding largest
largest_is test zero r l p q = omega arith
largest_is test (suc n) r l p q = go (eqb r (suc n)) refl (λ h. largest_is test n r h p (λ m k j. q m k (omega arith)))
  where
    go : (b : Bool) → eqb r (suc n) ≡ b → (r ≤ n → r ≡ largest test n) → r ≡ cond (test (suc n)) (suc n) (largest test n)
    go true e ih =
        let s : r ≡ suc n = eqb-true r (suc n) e in
        let t : test (suc n) ≡ true = rw s at (p (omega arith)) in
        rw t s
    go false e ih =
        let s : r ≤ n = omega (arith, eqb-false r (suc n) e) in
        rw (q (suc n) (omega arith) (omega arith)) (ih s)

-- tests that agree have the same largest number
pub largest_same : (f g : ℕ → Bool) (n : ℕ) → ((m : ℕ) → f m ≡ g m) → largest f n ≡ largest g n
unfolding largest
largest_same f g zero h = refl
largest_same f g (suc n) h = rw (h (suc n), largest_same f g n h)

-- the largest passes, and no larger one up to n does
pub largest_passes : (test : ℕ → Bool) (n : ℕ) → 0 < largest test n → test (largest test n) ≡ true
unfolding largest
largest_passes test zero h = absurd (omega arith)
largest_passes test (suc n) h = go (test (suc n)) refl (largest_passes test n) h
  where
    go : (b : Bool) → test (suc n) ≡ b → (0 < largest test n → test (largest test n) ≡ true) → 0 < cond b (suc n) (largest test n) → test (cond b (suc n) (largest test n)) ≡ true
    go true e ih k = e
    go false e ih k = ih k

pub largest_last : (test : ℕ → Bool) (n m : ℕ) → largest test n < m → m ≤ n → test m ≡ false
unfolding largest
largest_last test zero m h l = absurd (omega arith)
largest_last test (suc n) m h l = go (test (suc n)) refl (λ k j. largest_last test n m k j) h
  where
    go : (b : Bool) → test (suc n) ≡ b → (largest test n < m → m ≤ n → test m ≡ false) → cond b (suc n) (largest test n) < m → test m ≡ false
    go true e ih k = absurd (omega arith)
    go false e ih k = last (eqb m (suc n)) refl
      where
        last : (c : Bool) → eqb m (suc n) ≡ c → test m ≡ false
        last true f = rw (eqb-true m (suc n) f) e
        last false f = ih k (omega (arith, eqb-false m (suc n) f))

-- a use of 1 to 1,000,000,000 units somewhere is accepted where the meters and the credit can take it
abbrev fits_sums : State → Kind → ℕ → Bool
fits_sums a k n = not (overfills a k n) && not (ltb a.money.credit (cost a (charged_units a.place k n)))

module _ (a : State) (k : Kind) where
  pub accepted_is : (n : ℕ) → is_placed a.place ≡ true → 1 ≤ n → n ≤ 1000000000 → use_accepted a k n ≡ fits_sums a k n
  unfolding use_accepted use_reasons verdict_of
  accepted_is n p s f =
      rw (p, le-leb 1 n s, le-leb n 1000000000 f) (go (overfills a k n) (ltb a.money.credit (cost a (charged_units a.place k n))))
    where
      go : (b c : Bool) → is_accepted (cond b (Err MeterFull) (cond c (Err OverCredit) (Ok tt))) ≡ not b && not c
      go true c = refl
      go false true = refl
      go false false = refl

  -- no use of more than 1,000,000,000 units
  pub refused_many : (n : ℕ) → 1000000000 < n → use_accepted a k n ≡ false
  unfolding use_accepted use_reasons verdict_of
  refused_many n h = rw (lt-leb n 1000000000 h, and-false (leb 1 n)) (go (is_placed a.place))
    where
      go : (b : Bool) → is_accepted (cond (not b) (Err Unplaced) (Err UnitCount)) ≡ false
      go true = refl
      go false = refl

  -- such a use is accepted just where it is within the kind's own figures
  pub accepted_quoted : (n : ℕ) → Steady a → is_placed a.place ≡ true → 1 ≤ n → n ≤ 1000000000 → use_accepted a k n ≡ within_quote (quote_of a k) n
  accepted_quoted n s p l f = accepted_is n p l f ∙ sym (within_is a k n s f)

-- what is known while the answer lies from lo to hi
pub record Between (q : Quote) (lo hi : ℕ) : Type 0 where
  pub order : lo ≤ hi
  pub top : hi ≤ 1000000000
  pub passes : 0 < lo → within_quote q lo ≡ true
  pub none : (m : ℕ) → hi < m → m ≤ 1000000000 → within_quote q m ≡ false

-- a larger amount than a refused one is refused
pub refused_on : (q : Quote) (m n : ℕ) → m ≤ n → within_quote q m ≡ false → within_quote q n ≡ false
refused_on q m n h e = go (within_quote q n) refl
  where
    go : (b : Bool) → within_quote q n ≡ b → b ≡ false
    go true f = sym (within_less q m n h f) ∙ e
    go false f = refl

pub most_is : (a : State) (k : Kind) (lo hi : ℕ) → Steady a → is_placed a.place ≡ true → Between (quote_of a k) lo hi → hi ≤ lo → lo ≡ most_units a k
unfolding most_units
most_is a k lo hi s p b h =
    largest_is (use_accepted a k) 1000000000 lo (omega (arith, b.order, b.top))
    (λ l. accepted_quoted a k lo s p (omega arith) (omega (arith, b.order, b.top)) ∙ b.passes l)
    (λ m l t. accepted_quoted a k m s p (omega arith) t ∙ b.none m (omega (arith, b.order)) t)
