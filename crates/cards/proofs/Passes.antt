-- What a pass over the cards finds. Assumes nothing.
use mathlib.Core.Path.{◌≡◌, refl, sym, ◌∙◌, ap}
use mathlib.Core.Bool.{not, ◌&&◌}
use mathlib.Core.List.{List, [], ◌∷◌}
use Prim.Native.Nat.{ℕ, zero, suc, ◌+◌, ◌-◌, ◌≤◌, ◌<◌, min}
use native.Mathlib.Nat.{zero-add, add-zero}
use native.Mathlib.Omega.{arith}
use lib.ListN.{length, get_or}
use Rattle.std.specs.Prelude.{Option, Some, None, is_none, slice_get, unwrap_or}
use Rattle.std.specs.Option.{option_or}
use Rattle.std.proofs.Math.Bool.{and-true, and_assoc}
use Rattle.std.proofs.Math.Dec.{eqb-suc-zero}
use Rattle.std.proofs.lemmas.Bool.{cases_lt}
use mathlib.Core.Logic.{◌⊎◌, inl, inr}
use Rattle.std.proofs.lemmas.Option.{slice_get-get_or, slice_get_past, unwrap_or-slice_get}
use lib.Dec.{ltb}
use borrow.Author.Tests.{ltb-true, lt-ltb, le-ltb}
use Rattle.tariff.proofs.Tests.{bool_ext}
use Rattle.tariff.proofs.Sums.{⊕-assoc}
use Rattle.tariff.specs.declared.Units.{Units}
use Rattle.tariff.specs.Units.{each, zero_units, ◌⊕◌, AtMost}
use Rattle.cards.specs.declared.Card.{Card}
use Rattle.cards.specs.declared.Survey.{Survey}
use Rattle.cards.specs.Cards.{no_card, cards_units, allowance_fits, allowances_fit, card_sound, cards_sound, used, use_at}
use Rattle.cards.specs.Survey.{start, held_sum, survey_with, survey_of, held_used}

⊕-none : (u : Units) → u ⊕ zero_units ≡ u
⊕-none u = simp add-zero

-- sums held at a ceiling on the way are the sum so held at the end
held_twice : (x y z : ℕ) → min (min (x + y) 1000000000001 + z) 1000000000001 ≡ min (x + (y + z)) 1000000000001
held_twice x y z = omega arith

held_units : (u v w : Units) → held_sum (held_sum u v) w ≡ held_sum u (v ⊕ w)
held_units u v w = λ i. record {
  kb = held_twice u.kb v.kb w.kb i;
  outgoing = held_twice u.outgoing v.outgoing w.outgoing i;
  incoming = held_twice u.incoming v.incoming w.incoming i;
  sms = held_twice u.sms v.sms w.sms i;
}

total_from : (s : Survey) (c : Card) (cs : List Card) → (survey_of s (c ∷ cs)).total ≡ held_sum s.total (cards_units (c ∷ cs))
unfolding survey_of survey_with cards_units
total_from s c [] = ap (held_sum s.total) (sym (⊕-none c.lifetime))
total_from s c (d ∷ cs) = total_from (survey_with s c) d cs ∙ held_units s.total c.lifetime (cards_units (d ∷ cs))

-- the total of a pass: the cards' lifetime units, held
pub total_is : (i : ℕ) (cs : List Card) → (survey_of (start i) cs).total ≡ held_sum zero_units (cards_units cs)
unfolding survey_of cards_units
total_is i [] = refl
total_is i (c ∷ cs) = total_from (start i) c cs

count_from : (s : Survey) (cs : List Card) → s.count ≤ 17 → (survey_of s cs).count ≡ min (s.count + length cs) 17
unfolding survey_of survey_with
count_from s [] h = omega arith
count_from s (c ∷ cs) h = count_from (survey_with s c) cs (omega arith) ∙ omega arith

pub count_is : (i : ℕ) (cs : List Card) → (survey_of (start i) cs).count ≡ min (length cs) 17
count_is i cs = count_from (start i) cs (omega arith) ∙ ap (λ (n : ℕ). min n 17) (zero-add (length cs))

ordered_from : (s : Survey) (cs : List Card) → (survey_of s cs).ordered ≡ (s.ordered && cards_sound cs)
unfolding survey_of survey_with cards_sound
ordered_from s [] = sym (and-true s.ordered)
ordered_from s (c ∷ cs) = ordered_from (survey_with s c) cs ∙ and_assoc s.ordered (card_sound c) (cards_sound cs)

pub ordered_is : (i : ℕ) (cs : List Card) → (survey_of (start i) cs).ordered ≡ cards_sound cs
ordered_is i cs = ordered_from (start i) cs

suc-sub-one : (n : ℕ) → suc n - 1 ≡ n
suc-sub-one n = omega arith

card_from : (s : Survey) (cs : List Card) → (survey_of s cs).card ≡ option_or s.card (slice_get cs s.ahead)
unfolding survey_of survey_with
card_from s [] = go s.card
  where
    go : (o : Option Card) → o ≡ option_or o None
    go None = refl
    go (Some d) = refl
card_from s (c ∷ cs) = go s.card s.ahead refl refl (card_from (survey_with s c) cs)
  where
    go : (o : Option Card) (n : ℕ) → s.card ≡ o → s.ahead ≡ n
        → (survey_of (survey_with s c) cs).card ≡ option_or (survey_with s c).card (slice_get cs (survey_with s c).ahead)
        → (survey_of (survey_with s c) cs).card ≡ option_or s.card (slice_get (c ∷ cs) s.ahead)
    go (Some d) n e h ih = ih ∙ rw e refl
    go None zero e h ih = ih ∙ rw (e, h) refl
    go None (suc n) e h ih = ih ∙ rw (e, h, eqb-suc-zero n, suc-sub-one n) refl

-- the card at place i, if there is one
pub card_is : (i : ℕ) (cs : List Card) → (survey_of (start i) cs).card ≡ slice_get cs i
card_is i cs = card_from (start i) cs

-- what is read of it
pub read_is : (i : ℕ) (cs : List Card) → unwrap_or (survey_of (start i) cs).card no_card ≡ get_or cs i no_card
read_is i cs = rw (card_is i cs) (unwrap_or-slice_get cs i no_card)

-- two comparisons that imply each other are one test
ltb_ext : (a b c d : ℕ) → (a < b → c < d) → (c < d → a < b) → ltb a b ≡ ltb c d
ltb_ext a b c d p q = bool_ext _ _ (λ e. lt-ltb c d (p (ltb-true a b e))) (λ e. lt-ltb a b (q (ltb-true c d e)))

is_none-slice_get : (cs : List Card) (i : ℕ) → is_none (slice_get cs i) ≡ not (ltb i (length cs))
is_none-slice_get cs i = go (cases_lt i (length cs))
  where
    go : (i < length cs) ⊎ (length cs ≤ i) → is_none (slice_get cs i) ≡ not (ltb i (length cs))
    go (inl h) = rw (slice_get-get_or cs i no_card h, lt-ltb i (length cs) h) refl
    go (inr h) = rw (slice_get_past cs i h, le-ltb i (length cs) h) refl

-- is there no card at place i?
pub absent_is : (i : ℕ) (cs : List Card) → is_none (survey_of (start i) cs).card ≡ not (ltb i (length cs))
absent_is i cs = ap is_none (card_is i cs) ∙ is_none-slice_get cs i

held_same : (x y : ℕ) → x + y ≤ 1000000000000 → min (x + y) 1000000000001 ≡ x + y
held_same x y h = omega arith

pub held_is : (c : Card) (u : Units) → AtMost (c.lifetime ⊕ u) (each 1000000000000 1000000000000 1000000000000 1000000000000) → c.monthly ≤ c.lifetime.kb → held_used c u ≡ used c u
held_is c u h l = λ i. record {
  lifetime = record {
    kb = held_same c.lifetime.kb u.kb h.kb i;
    outgoing = held_same c.lifetime.outgoing u.outgoing h.outgoing i;
    incoming = held_same c.lifetime.incoming u.incoming h.incoming i;
    sms = held_same c.lifetime.sms u.sms h.sms i;
  };
  monthly = held_same c.monthly u.kb (omega (arith, h.kb)) i;
  allowance = c.allowance;
}

-- a card's lifetime units are at most the sum of all
pub card_most : (cs : List Card) (i : ℕ) → AtMost (get_or cs i no_card).lifetime (cards_units cs)
unfolding cards_units
card_most [] i = omega arith
card_most (c ∷ cs) zero = omega arith
card_most (c ∷ cs) (suc i) = omega (arith, card_most cs i)

-- a use of one card adds to the sum of all
pub units_used : (cs : List Card) (i : ℕ) (u : Units) → i < length cs → cards_units (use_at cs i u) ≡ cards_units cs ⊕ u
unfolding use_at cards_units
units_used [] i u h = absurd (omega arith)
units_used (c ∷ cs) zero u h = λ j. record {
  kb = swap c.lifetime.kb u.kb (cards_units cs).kb j;
  outgoing = swap c.lifetime.outgoing u.outgoing (cards_units cs).outgoing j;
  incoming = swap c.lifetime.incoming u.incoming (cards_units cs).incoming j;
  sms = swap c.lifetime.sms u.sms (cards_units cs).sms j;
}
  where
    swap : (x y z : ℕ) → x + y + z ≡ x + z + y
    swap x y z = omega arith
units_used (c ∷ cs) (suc i) u h = ap (λ (v : Units). c.lifetime ⊕ v) (units_used cs i u (omega arith)) ∙ sym (⊕-assoc c.lifetime (cards_units cs) u)

allowed_from : (s : Survey) (cs : List Card) → (survey_of s cs).allowed ≡ (s.allowed && allowances_fit cs)
unfolding survey_of survey_with allowances_fit
allowed_from s [] = sym (and-true s.allowed)
allowed_from s (c ∷ cs) = allowed_from (survey_with s c) cs ∙ and_assoc s.allowed (allowance_fits c.allowance) (allowances_fit cs)

-- is each allowance in range?
pub allowed_is : (i : ℕ) (cs : List Card) → (survey_of (start i) cs).allowed ≡ allowances_fit cs
allowed_is i cs = allowed_from (start i) cs
