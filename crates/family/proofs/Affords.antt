-- What a card affords: the lesser of what the account affords and what its allowance has left. Assumes nothing.
use Prim.Native.Nat.{ℕ, zero, suc, ◌+◌, ◌-◌, ◌≤◌, ◌<◌, min}
use mathlib.Core.Path.{◌≡◌, refl, sym, ◌∙◌, ap}
use mathlib.Core.Bool.{Bool, true, false, not, cond, ◌&&◌, ◌||◌}
use mathlib.Core.List.{List, [], ◌∷◌}
use native.Mathlib.Omega.{arith}
use lib.Dec.{leb, ltb}
use lib.ListN.{length, get_or}
use borrow.Author.Tests.{leb-true, le-leb, le-ltb, ltb-false, not-true}
use Rattle.tariff.specs.declared.Kind.{Kind}
use Rattle.tariff.specs.declared.Kind.TheVariants.{Data, Outgoing, Incoming, Sms}
use Rattle.tariff.specs.Tests.{because, verdict_of}
use Rattle.tariff.proofs.Tests.{bool_ext, and_both, and_left, and_right, accepts_cons, rest_accepts}
use Rattle.presence.specs.Day.{is_placed}
use Rattle.state.proofs.Verdicts.{few}
use Rattle.quotes.specs.Quotes.{quote_of, within_quote}
use Rattle.account.specs.declared.Account.{Account}
use Rattle.account.specs.declared.Call.TheVariants as plain-call
use Rattle.account.specs.Whole.{sound}
use Rattle.account.specs.Calls.{own_reasons, reasons, verdict, accepts}
use Rattle.account.specs.Largest.{largest, use_accepted}
use Rattle.account.specs.Answers.{afford_of}
use Rattle.account.proofs.Kept.{some_units}
use Rattle.account.proofs.Parts.{steady}
use Rattle.account.proofs.Search.{largest_is, largest_same, largest_passes, largest_last, accepted_quoted, refused_on}
use Rattle.cards.specs.declared.Card.{Card}
use Rattle.cards.specs.Cards.{no_card, allowance_fits, card_sound, cards_sound}
use Rattle.family.specs.declared.BoxCall.TheVariants.{Use}
use Rattle.family.specs.Box.{Box, plain, box_sound, no_such_card, beyond, with_allowance, box_reasons}
use Rattle.family.specs.Box.{box_verdict, box_accepts}
use Rattle.family.specs.Answers.{box_afford}
use Rattle.family.specs.Seen.{room_of}
use Rattle.family.proofs.Accepts.{account_accepts, card_within, before_accepts, box_tells, has_account}
use Rattle.tariff.specs.declared.Refusal.TheVariants.{CardAllowance}

largest_most : (f : ℕ → Bool) (n : ℕ) → largest f n ≤ n
unfolding largest
largest_most f zero = omega arith
largest_most f (suc n) = go (f (suc n)) (largest_most f n)
  where
    go : (b : Bool) → largest f n ≤ n → cond b (suc n) (largest f n) ≤ suc n
    go true h = omega arith
    go false h = omega arith

-- of a test that holds of all smaller numbers too: the largest that passes it and is at most r
module _ (f : ℕ → Bool) (r n : ℕ) (down : (k m : ℕ) → 1 ≤ k → k ≤ m → m ≤ n → f m ≡ true → f k ≡ true) where
  within_passes : 0 < min (largest f n) r → (f (min (largest f n) r) && leb (min (largest f n) r) r) ≡ true
  within_passes h = and_both (f (min (largest f n) r)) (leb (min (largest f n) r) r)
      (down (min (largest f n) r) (largest f n) (omega arith) (omega arith) (largest_most f n) (largest_passes f n (omega arith)))
      (le-leb (min (largest f n) r) r (omega arith))

  within_none : (m : ℕ) → min (largest f n) r < m → m ≤ n → (f m && leb m r) ≡ false
  within_none m h l = go (leb m r) refl
    where
      and_no : (x : Bool) → (x && false) ≡ false
      and_no true = refl
      and_no false = refl

      go : (b : Bool) → leb m r ≡ b → (f m && b) ≡ false
      go true e = ap (λ (x : Bool). x && true) (largest_last f n m (omega (arith, leb-true m r e)) l)
      go false e = and_no (f m)

  pub largest_within : largest (λ m. f m && leb m r) n ≡ min (largest f n) r
  largest_within = sym (largest_is (λ m. f m && leb m r) n (min (largest f n) r) (omega (arith, largest_most f n)) within_passes within_none)

accepts_is : (a : Account) (k : Kind) (n : ℕ) → sound a ≡ true → accepts a (plain-call.Use k n) ≡ use_accepted a.state k n
unfolding accepts verdict reasons own_reasons verdict_of use_accepted
accepts_is a k n s = rw s refl

-- a use that the account accepts is accepted with fewer units
account_down : (a : Account) (k : Kind) → sound a ≡ true → is_placed a.state.place ≡ true
    → (m n : ℕ) → 1 ≤ m → m ≤ n → n ≤ 1000000000
    → accepts a (plain-call.Use k n) ≡ true → accepts a (plain-call.Use k m) ≡ true
account_down a k s p m n h l t e = accepts_is a k m s ∙ quoted m h (omega arith) ∙ go (within_quote (quote_of a.state k) m) refl
  where
    quoted : (x : ℕ) → 1 ≤ x → x ≤ 1000000000 → use_accepted a.state k x ≡ within_quote (quote_of a.state k) x
    quoted x f g = accepted_quoted a.state k x (steady a s) p f g

    go : (b : Bool) → within_quote (quote_of a.state k) m ≡ b → b ≡ true
    go true f = refl
    go false f = sym (refused_on (quote_of a.state k) m n l f) ∙ sym (quoted n (omega arith) t) ∙ sym (accepts_is a k n s) ∙ e

-- what the allowance has left for a use of the kind
within_is : (c : Card) (k : Kind) (n : ℕ) → c.monthly ≤ c.allowance → n ≤ 1000000000 → not (beyond c k n) ≡ leb n (room_of c k)
unfolding beyond
within_is c Data n h l = bool_ext _ _ (λ e. le-leb n (c.allowance - c.monthly) (omega (arith, ltb-false c.allowance (c.monthly + n) (not-true (ltb c.allowance (c.monthly + n)) e))))
    (λ e. ap not (le-ltb c.allowance (c.monthly + n) (omega (arith, leb-true n (c.allowance - c.monthly) e))))
within_is c Outgoing n h l = sym (le-leb n 1000000000 l)
within_is c Incoming n h l = sym (le-leb n 1000000000 l)
within_is c Sms n h l = sym (le-leb n 1000000000 l)

-- a card of sound cards is sound; where there is none, what is read is
sound_at : (cs : List Card) (i : ℕ) → cards_sound cs ≡ true → card_sound (get_or cs i no_card) ≡ true
unfolding cards_sound
sound_at [] i e = refl
sound_at (c ∷ cs) zero e = and_left (card_sound c) (cards_sound cs) e
sound_at (c ∷ cs) (suc i) e = sound_at cs i (and_right (card_sound c) (cards_sound cs) e)

-- its kB of the month are within its lifetime kB and its allowance
pub monthly_ok : (cs : List Card) (i : ℕ) → cards_sound cs ≡ true
    → ((get_or cs i no_card).monthly ≤ (get_or cs i no_card).lifetime.kb) × ((get_or cs i no_card).monthly ≤ (get_or cs i no_card).allowance)
monthly_ok cs i e =
    let c = get_or cs i no_card in
    let x = leb c.monthly c.lifetime.kb in
    let y = leb c.monthly c.allowance in
    let h : (x && y) ≡ true = and_left (x && y) (allowance_fits c.allowance) (sound_at cs i e) in
    (leb-true c.monthly c.lifetime.kb (and_left x y h), leb-true c.monthly c.allowance (and_right x y h))

module _ (b : Box) (i : ℕ) (k : Kind) (s : box_sound b ≡ true) (t : (not (ltb i (length b.cards)) || ltb 16 (length b.cards)) ≡ false) where
  abbrev own : Card
  own = get_or b.cards i no_card

  inside : (n : ℕ) → accepts b.account (plain-call.Use k n) ≡ true → not (beyond own k n) ≡ leb n (room_of own k)
  inside n e = within_is own k n (monthly_ok b.cards i (box_tells b s).each_ok).1 (few n 1000000000 (some_units b.account k n e))

  both_there : (n : ℕ) → box_accepts b (Use i k n) ≡ true → (accepts b.account (plain-call.Use k n) && leb n (room_of own k)) ≡ true
  both_there n e =
      let a : accepts b.account (plain-call.Use k n) ≡ true = unfold plain in account_accepts b (Use i k n) e in
      and_both _ _ a (sym (inside n a) ∙ ap not (card_within b i k n e))

  both_back : (n : ℕ) → (accepts b.account (plain-call.Use k n) && leb n (room_of own k)) ≡ true → box_accepts b (Use i k n) ≡ true
  unfolding box_accepts box_verdict box_reasons no_such_card with_allowance plain accepts verdict reasons
  both_back n e =
      let a : accepts b.account (plain-call.Use k n) ≡ true = and_left (accepts b.account (plain-call.Use k n)) (leb n (room_of own k)) e in
      let w : beyond own k n ≡ false = not-true (beyond own k n) (inside n a ∙ and_right (accepts b.account (plain-call.Use k n)) (leb n (room_of own k)) e) in
      accepts_cons _ _ (ap not s) (accepts_cons _ _ t (before_accepts 6 (because CardAllowance (beyond own k n)) _ w (rest_accepts _ _ a)))

  -- the box accepts what the account accepts and the allowance has room for
  pub accepts_both : (n : ℕ) → box_accepts b (Use i k n) ≡ (accepts b.account (plain-call.Use k n) && leb n (room_of own k))
  accepts_both n = bool_ext _ _ (both_there n) (both_back n)

  -- Afford of a card needs no search of its own
  pub card_affords : is_placed b.account.state.place ≡ true → box_afford b i k ≡ min (afford_of b.account k) (room_of own k)
  unfolding afford_of box_afford
  card_affords p =
      largest_same (λ n. box_accepts b (Use i k n)) (λ n. accepts b.account (plain-call.Use k n) && leb n (room_of own k)) 1000000000 accepts_both
      ∙ largest_within (λ n. accepts b.account (plain-call.Use k n)) (room_of own k) 1000000000 (account_down b.account k (has_account b s) p)
