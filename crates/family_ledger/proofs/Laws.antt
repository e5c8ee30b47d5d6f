-- The box's calls keep the laws on which the match of two lists rests. Assumes nothing.
use Prim.Native.Nat.{ℕ, zero, suc, ◌+◌, ◌≤◌, ◌<◌}
use mathlib.Core.Path.{◌≡◌, refl, sym, ◌∙◌, ap}
use mathlib.Core.Bool.{Bool, true, false, cond}
use mathlib.Core.List.{List, [], ◌∷◌, map}
use native.Mathlib.Nat.{zero-add, add-zero}
use native.Mathlib.Omega.{arith}
use lib.Dec.{eqb, ltb}
use lib.ListN.{length, get_or, length-set}
use borrow.Author.Tests.{ltb-true, ltb-false, ne_eqb}
use Rattle.tariff.specs.declared.Units.{Units}
use Rattle.tariff.specs.declared.Kind.{Kind}
use Rattle.tariff.specs.Units.{zero_units, ◌⊕◌, only}
use Rattle.tariff.proofs.Tests.{eqb_ext}
use Rattle.tariff.proofs.Sums.{⊕-assoc}
use Rattle.state.proofs.Adding.{Worked}
use Rattle.account.specs.declared.Call.TheVariants as plain-call
use Rattle.account.specs.Calls.{after}
use Rattle.cards.specs.declared.Card.{Card}
use Rattle.cards.specs.Cards.{no_card, used, use_at, cleared}
use Rattle.family.specs.declared.BoxCall.{BoxCall}
use Rattle.family.specs.declared.BoxCall.TheVariants.{Register, Use, TopUp, NextDay, Afford}
use Rattle.calendar.specs.Calendar.{starts_month}
use Rattle.family.specs.Box.{Box, plain, box_accepts, cards_after, box_after}
use Rattle.family.proofs.Accepts.{account_accepts, card_there}
use Rattle.machine.specs.Machine.{Matches}
use Rattle.machine.proofs.Match.{Lawful, matching}
use Rattle.ledger.specs.Lists.{is_boundary, units_of, seconds_of, Taken}
use Rattle.ledger.proofs.Match as account_laws
use Rattle.ledger.proofs.Match.{absorb, after_absorb, worked_after, worked_absorb}
use Rattle.family_ledger.specs.Lists.{card_units, BoxTaken, box_taken, none_of_box, both_of_box, box_calls}

-- each card takes its units, and their sum
spread : List Card → (ℕ → Units) → List Card
spread [] u = []
spread (c ∷ cs) u = used c (u 0) ∷ spread cs (λ j. u (suc j))

total : List Card → (ℕ → Units) → Units
total [] u = zero_units
total (c ∷ cs) u = u 0 ⊕ total cs (λ j. u (suc j))

⊕-none : (u : Units) → u ⊕ zero_units ≡ u
⊕-none u = simp add-zero

used_none : (c : Card) → used c zero_units ≡ c
used_none c = simp add-zero

spread_none : (cs : List Card) → spread cs (λ j. zero_units) ≡ cs
unfolding spread
spread_none [] = refl
spread_none (c ∷ cs) = λ i. used_none c i ∷ spread_none cs i

total_none : (cs : List Card) → total cs (λ j. zero_units) ≡ zero_units
unfolding total
total_none [] = refl
total_none (c ∷ cs) = ap (λ (u : Units). zero_units ⊕ u) (total_none cs)

used_twice : (c : Card) (u v : Units) → used (used c u) v ≡ used c (u ⊕ v)
used_twice c u v = λ i. record { lifetime = ⊕-assoc c.lifetime u v i; monthly = assoc c.monthly u.kb v.kb i; allowance = c.allowance }
  where
    assoc : (x y z : ℕ) → x + y + z ≡ x + (y + z)
    assoc x y z = omega arith

spread_plus : (cs : List Card) (u v : ℕ → Units) → spread (spread cs u) v ≡ spread cs (λ j. u j ⊕ v j)
unfolding spread
spread_plus [] u v = refl
spread_plus (c ∷ cs) u v = λ i. used_twice c (u 0) (v 0) i ∷ spread_plus cs (λ j. u (suc j)) (λ j. v (suc j)) i

total_spread : (cs : List Card) (u v : ℕ → Units) → total (spread cs u) v ≡ total cs v
unfolding spread total
total_spread [] u v = refl
total_spread (c ∷ cs) u v = ap (λ (w : Units). v 0 ⊕ w) (total_spread cs (λ j. u (suc j)) (λ j. v (suc j)))

swap : (a b c d : Units) → (a ⊕ b) ⊕ (c ⊕ d) ≡ (a ⊕ c) ⊕ (b ⊕ d)
swap a b c d = λ i. record {
  kb = four a.kb b.kb c.kb d.kb i;
  outgoing = four a.outgoing b.outgoing c.outgoing d.outgoing i;
  incoming = four a.incoming b.incoming c.incoming d.incoming i;
  sms = four a.sms b.sms c.sms d.sms i;
}
  where
    four : (w x y z : ℕ) → w + x + (y + z) ≡ w + y + (x + z)
    four w x y z = omega arith

total_plus : (cs : List Card) (u v : ℕ → Units) → total cs u ⊕ total cs v ≡ total cs (λ j. u j ⊕ v j)
unfolding total
total_plus [] u v = refl
total_plus (c ∷ cs) u v = swap (u 0) _ (v 0) _ ∙ ap (λ (w : Units). u 0 ⊕ v 0 ⊕ w) (total_plus cs (λ j. u (suc j)) (λ j. v (suc j)))

-- the units of one card alone
single : ℕ → Units → ℕ → Units
single i u j = cond (eqb j i) u zero_units

single_next : (i : ℕ) (u : Units) → ◌≡◌ {A = ℕ → Units} (λ j. single (suc i) u (suc j)) (single i u)
unfolding single
single_next i u = λ k j. cond (eqb_suc j i k) u zero_units
  where
    eqb_suc : (j i : ℕ) → eqb (suc j) (suc i) ≡ eqb j i
    eqb_suc j i = eqb_ext (suc j) (suc i) j i (λ e. omega arith) (λ e. omega arith)

single_other : (u : Units) → ◌≡◌ {A = ℕ → Units} (λ j. single 0 u (suc j)) (λ j. zero_units)
unfolding single
single_other u = λ k j. cond (ne_eqb (suc j) 0 (λ e. omega arith) k) u zero_units

total_single : (cs : List Card) (i : ℕ) (u : Units) → i < length cs → total cs (single i u) ≡ u
unfolding total
total_single [] i u h = absurd (omega arith)
total_single (c ∷ cs) zero u h = (λ k. single 0 u 0 ⊕ total cs (single_other u k)) ∙ (λ k. single_zero u k ⊕ total_none cs k) ∙ ⊕-none u
  where
    single_zero : (v : Units) → single 0 v 0 ≡ v
    single_zero v = unfold single in refl
total_single (c ∷ cs) (suc i) u h = (λ k. single (suc i) u 0 ⊕ total cs (single_next i u k)) ∙ (λ k. not_first i u k ⊕ total_single cs i u (omega arith) k) ∙ none-⊕ u
  where
    not_first : (n : ℕ) (v : Units) → single (suc n) v 0 ≡ zero_units
    not_first n v = unfold single in (λ k. cond (ne_eqb 0 (suc n) (λ e. omega arith) k) v zero_units)

    none-⊕ : (v : Units) → zero_units ⊕ v ≡ v
    none-⊕ v = simp zero-add

spread_single : (cs : List Card) (i : ℕ) (u : Units) → i < length cs → spread cs (single i u) ≡ use_at cs i u
unfolding spread use_at single
spread_single [] i u h = absurd (omega arith)
spread_single (c ∷ cs) zero u h = λ k. used c u ∷ ((λ m. spread cs (single_other u m)) ∙ spread_none cs) k
spread_single (c ∷ cs) (suc i) u h = λ k. ((λ m. used c (cond (ne_eqb 0 (suc i) (λ e. omega arith) m) u zero_units)) ∙ used_none c) k ∷ ((λ m. spread cs (single_next i u m)) ∙ spread_single cs i u (omega arith)) k

spread_length : (cs : List Card) (u : ℕ → Units) → length (spread cs u) ≡ length cs
unfolding spread
spread_length [] u = refl
spread_length (c ∷ cs) u = ap suc (spread_length cs (λ j. u (suc j)))

map-length : (f : Card → Card) (cs : List Card) → length (map f cs) ≡ length cs
map-length f [] = refl
map-length f (c ∷ cs) = ap suc (map-length f cs)

-- the cards tell the units that each took
spread_tells : (cs : List Card) (u v : ℕ → Units) → spread cs u ≡ spread cs v → (j : ℕ) → j < length cs → u j ≡ v j
unfolding spread
spread_tells [] u v e j h = absurd (omega arith)
spread_tells (c ∷ cs) u v e zero h =
    let l : c.lifetime ⊕ u 0 ≡ c.lifetime ⊕ v 0 = ap (λ (xs : List Card). (get_or xs 0 no_card).lifetime) e in
    let k : (u 0).kb ≡ (v 0).kb = omega (arith, ap (λ (x : Units). x.kb) l) in
    let o : (u 0).outgoing ≡ (v 0).outgoing = omega (arith, ap (λ (x : Units). x.outgoing) l) in
    let n : (u 0).incoming ≡ (v 0).incoming = omega (arith, ap (λ (x : Units). x.incoming) l) in
    let t : (u 0).sms ≡ (v 0).sms = omega (arith, ap (λ (x : Units). x.sms) l) in
    λ i. record { kb = k i; outgoing = o i; incoming = n i; sms = t i }
spread_tells (c ∷ cs) u v e (suc j) h = spread_tells cs (λ m. u (suc m)) (λ m. v (suc m)) (tail_eq _ _ _ _ e) j (omega arith)
  where
    tail_eq : (x y : Card) (xs ys : List Card) → x ∷ xs ≡ y ∷ ys → xs ≡ ys
    tail_eq x y xs ys p = cc

-- what all cards take together
abbrev of_all : List Card → BoxTaken → Taken
of_all cs t = record { units = total cs t.units; seconds = t.seconds }

-- the units and charged seconds of a stretch taken at once
box_absorb : Box → BoxTaken → Box
box_absorb b t = record { account = absorb b.account (of_all b.cards t); cards = spread b.cards t.units }

-- a box of m cards whose charges are as worked out
abbrev Good : ℕ → Box → Type 0
Good m b = Worked b.account.state × (length b.cards ≡ m)

-- no units of cards that are not there
abbrev Fits : ℕ → BoxTaken → Type 0
Fits m t = (j : ℕ) → m ≤ j → t.units j ≡ zero_units

pub cards_length : (b : Box) (c : BoxCall) → length (cards_after b c) ≡ length b.cards
unfolding cards_after use_at
cards_length b (Register p) = refl
cards_length b (Use i k n) = length-set b.cards i _
cards_length b (TopUp n) = refl
cards_length b NextDay = go (starts_month (b.account.state.day + 1))
  where
    go : (x : Bool) → length (cond x (map cleared b.cards) b.cards) ≡ length b.cards
    go true = map-length cleared b.cards
    go false = refl
cards_length b (Afford i k) = refl

fits_call : (m : ℕ) (b : Box) (c : BoxCall) → Good m b → box_accepts b c ≡ true → Fits m (box_taken b c)
unfolding card_units
fits_call m b (Register p) g e j h = refl
fits_call m b (Use i k n) g e j h = λ x. cond (ne_eqb j i (λ q. omega (arith, card_there b i k n e, g.1)) x) (only k n) zero_units
fits_call m b (TopUp n) g e j h = refl
fits_call m b NextDay g e j h = refl
fits_call m b (Afford i k) g e j h = refl

absorb_none : (b : Box) → box_absorb b none_of_box ≡ b
unfolding box_absorb
absorb_none b = λ i. record {
  account = (ap (λ (u : Units). absorb b.account (record { units = u; seconds = 0 })) (total_none b.cards) ∙ account_laws.absorb_none b.account) i;
  cards = spread_none b.cards i;
}

absorb_plus : (b : Box) (t v : BoxTaken) → Worked b.account.state → box_absorb (box_absorb b t) v ≡ box_absorb b (both_of_box t v)
unfolding box_absorb
absorb_plus b t v w = λ i. record {
  account = (
      ap (λ (u : Units). absorb (absorb b.account (of_all b.cards t)) (record { units = u; seconds = v.seconds })) (total_spread b.cards t.units v.units)
      ∙ account_laws.absorb_add b.account (of_all b.cards t) (of_all b.cards v) w
      ∙ ap (λ (u : Units). absorb b.account (record { units = u; seconds = t.seconds + v.seconds })) (total_plus b.cards t.units v.units)
      ) i;
  cards = spread_plus b.cards t.units v.units i;
}

use_absorb : (b : Box) (i : ℕ) (k : Kind) (n : ℕ) → box_accepts b (Use i k n) ≡ true → box_after b (Use i k n) ≡ box_absorb b (box_taken b (Use i k n))
unfolding plain is_boundary units_of box_after cards_after box_absorb card_units single
use_absorb b i k n e =
    let t : i < length b.cards = card_there b i k n e in
    let s : ℕ = seconds_of b.account.state.place (plain-call.Use k n) in
    let a : after b.account (plain-call.Use k n) ≡ absorb b.account (record { units = only k n; seconds = s }) = after_absorb b.account (plain-call.Use k n) (account_accepts b (Use i k n) e) refl in
    λ j. record {
      account = (a ∙ ap (λ (u : Units). absorb b.account (record { units = u; seconds = s })) (sym (total_single b.cards i (only k n) t))) j;
      cards = sym (spread_single b.cards i (only k n) t) j;
    }

absorb_call : (b : Box) (c : BoxCall) → box_accepts b c ≡ true → is_boundary (plain c) ≡ false → box_after b c ≡ box_absorb b (box_taken b c)
unfolding is_boundary plain box_after cards_after after card_units seconds_of
absorb_call b (Register p) e f = cc
absorb_call b (Use i k n) e f = use_absorb b i k n e
absorb_call b (TopUp n) e f = cc
absorb_call b NextDay e f = cc
absorb_call b (Afford i k) e f = sym (absorb_none b)

-- the cards tell the units of each, and the account the charged seconds
absorb_tells : (m : ℕ) (b : Box) (t v : BoxTaken) → length b.cards ≡ m → Fits m t → Fits m v → box_absorb b t ≡ box_absorb b v → t ≡ v
unfolding box_absorb
absorb_tells m b t v l f g e = λ i. record { units = λ j. at j (ltb j m) refl i; seconds = same i }
  where
    at : (j : ℕ) (x : Bool) → ltb j m ≡ x → t.units j ≡ v.units j
    at j true p = spread_tells b.cards t.units v.units (ap (λ (z : Box). z.cards) e) j (omega (arith, ltb-true j m p, l))
    at j false p = f j (ltb-false j m p) ∙ sym (g j (ltb-false j m p))

    same : t.seconds ≡ v.seconds
    same = ap (λ (z : Taken). z.seconds) (account_laws.absorb_inj b.account (of_all b.cards t) (of_all b.cards v) (ap (λ (z : Box). z.account) e))

-- the calls on a box of m cards keep the laws of the match
box_laws : ℕ → Lawful box_calls
box_laws m = record {
  Good = Good m;
  Fits = Fits m;
  absorb = box_absorb;
  good_after = λ b c g. unfold box_after in (worked_after b.account (plain c) g.0, cards_length b c ∙ g.1);
  good_absorb = λ b t g. unfold box_absorb in (worked_absorb b.account (of_all b.cards t) g.0, spread_length b.cards t.units ∙ g.1);
  fits_none = λ j h. refl;
  fits_plus = λ t v f g j h. (λ i. f j h i ⊕ g j h i);
  fits_call = fits_call m;
  absorb_none = absorb_none;
  absorb_plus = λ b t v g f h. absorb_plus b t v g.0;
  absorb_call = λ b c g e f. absorb_call b c e f;
  absorb_tells = λ b t v g f h e. absorb_tells m b t v g.1 f h e;
}

-- the match of two lists of calls on a box
pub box_matches : (b : Box) → Worked b.account.state → (xs ys : List BoxCall) → Matches box_calls b b xs ys
unfolding box_laws
box_matches b w xs ys = matching box_calls (box_laws (length b.cards)) b (w, refl) xs ys
