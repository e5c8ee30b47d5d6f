-- Which cards a call can change, and what Afford of a card answers. Assumes nothing.
use Prim.Native.Nat.{ℕ, zero, suc, ◌+◌, ◌<◌}
use mathlib.Core.Path.{◌≡◌, refl, ◌∙◌}
use mathlib.Core.Bool.{Bool, true, false, cond}
use mathlib.Core.List.{List, [], ◌∷◌, map}
use native.Mathlib.Omega.{arith}
use lib.Dec.{leb}
use lib.ListN.{length, get_or}
use lib.Seq.{get_or-set_other}
use borrow.Author.Tests.{leb-true, leb-false}
use Rattle.calendar.specs.Calendar.{starts_month}
use Rattle.tariff.specs.declared.Units.{Units}
use Rattle.tariff.specs.declared.Kind.{Kind}
use Rattle.tariff.specs.Units.{only}
use Rattle.state.proofs.Verdicts.{few}
use Rattle.account.specs.Calls.{after}
use Rattle.account.specs.Largest.{largest}
use Rattle.account.proofs.Search.{largest_passes, largest_last}
use Rattle.account.proofs.Kept.{some_units}
use Rattle.cards.specs.declared.Card.{Card}
use Rattle.cards.specs.Cards.{no_card, used, use_at, cleared}
use Rattle.family.specs.declared.BoxCall.{BoxCall}
use Rattle.family.specs.declared.BoxCall.TheVariants.{Register, Use, TopUp, NextDay, Afford}
use Rattle.family.specs.Box.{Box, plain, box_accepts, cards_after, box_after, box_step}
use Rattle.family.specs.Answers.{box_afford}
use Rattle.family.proofs.Accepts.{account_accepts}
use Rattle.machine.specs.Machine as machine
use Rattle.family_ledger.specs.Claims.{OtherCardsStay, AllowancesStay, CardAffordIsLargest}
use Rattle.family_ledger.specs.Lists.{box_run}
use Rattle.family_ledger.proofs.Laws.{cards_length}

others_stay : (b : Box) (i j : ℕ) (k : Kind) (n : ℕ) → (j ≡ i → ⊥) → get_or (box_step b (Use i k n)).cards j no_card ≡ get_or b.cards j no_card
unfolding box_step box_after cards_after use_at
others_stay b i j k n h = go (box_accepts b (Use i k n))
  where
    go : (x : Bool) → get_or (cond x (box_after b (Use i k n)) b).cards j no_card ≡ get_or b.cards j no_card
    go true = get_or-set_other b.cards i j (used (get_or b.cards i no_card) (only k n)) no_card h
    go false = refl

pub other_cards_stay : OtherCardsStay
unfolding box_step
other_cards_stay = record { others = others_stay; refused = λ b c e. rw e refl }

-- a use and a month's first day leave each allowance
used_allowance : (cs : List Card) (i j : ℕ) (u : Units) → (get_or (use_at cs i u) j no_card).allowance ≡ (get_or cs j no_card).allowance
unfolding use_at
used_allowance [] i j u = refl
used_allowance (c ∷ cs) zero zero u = refl
used_allowance (c ∷ cs) zero (suc j) u = refl
used_allowance (c ∷ cs) (suc i) zero u = refl
used_allowance (c ∷ cs) (suc i) (suc j) u = used_allowance cs i j u

cleared_allowance : (cs : List Card) (j : ℕ) → (get_or (map cleared cs) j no_card).allowance ≡ (get_or cs j no_card).allowance
cleared_allowance [] j = refl
cleared_allowance (c ∷ cs) zero = refl
cleared_allowance (c ∷ cs) (suc j) = cleared_allowance cs j

after_allowance : (b : Box) (c : BoxCall) (j : ℕ) → (get_or (cards_after b c) j no_card).allowance ≡ (get_or b.cards j no_card).allowance
unfolding cards_after
after_allowance b (Register p) j = refl
after_allowance b (Use i k n) j = used_allowance b.cards i j (only k n)
after_allowance b (TopUp n) j = refl
after_allowance b NextDay j = go (starts_month (b.account.state.day + 1))
  where
    go : (x : Bool) → (get_or (cond x (map cleared b.cards) b.cards) j no_card).allowance ≡ (get_or b.cards j no_card).allowance
    go true = cleared_allowance b.cards j
    go false = refl
after_allowance b (Afford i k) j = refl

step_allowance : (b : Box) (c : BoxCall) (j : ℕ) → (get_or (box_step b c).cards j no_card).allowance ≡ (get_or b.cards j no_card).allowance
unfolding box_step box_after
step_allowance b c j = go (box_accepts b c)
  where
    go : (x : Bool) → (get_or (cond x (box_after b c) b).cards j no_card).allowance ≡ (get_or b.cards j no_card).allowance
    go true = after_allowance b c j
    go false = refl

step-length : (b : Box) (c : BoxCall) → length (box_step b c).cards ≡ length b.cards
unfolding box_step box_after
step-length b c = go (box_accepts b c)
  where
    go : (x : Bool) → length (cond x (box_after b c) b).cards ≡ length b.cards
    go true = cards_length b c
    go false = refl

run_allowance : (b : Box) (cs : List BoxCall) (j : ℕ) → (get_or (box_run b cs).cards j no_card).allowance ≡ (get_or b.cards j no_card).allowance
unfolding machine.run machine.step box_step
run_allowance b [] j = refl
run_allowance b (c ∷ cs) j = run_allowance (box_step b c) cs j ∙ step_allowance b c j

run_length : (b : Box) (cs : List BoxCall) → length (box_run b cs).cards ≡ length b.cards
unfolding machine.run machine.step box_step
run_length b [] = refl
run_length b (c ∷ cs) = run_length (box_step b c) cs ∙ step-length b c

pub allowances_stay : AllowancesStay
allowances_stay = record { counted = run_length; fixed = run_allowance }

-- what the account refuses the box refuses, so no use over 1,000,000,000 is accepted
refused_many : (b : Box) (i : ℕ) (k : Kind) (n : ℕ) → 1000000000 < n → box_accepts b (Use i k n) ≡ false
unfolding plain
refused_many b i k n h = go (box_accepts b (Use i k n)) refl
  where
    go : (x : Bool) → box_accepts b (Use i k n) ≡ x → x ≡ false
    go true e = absurd (omega (arith, few n 1000000000 (some_units b.account k n (account_accepts b (Use i k n) e))))
    go false e = refl

afford_largest : (b : Box) (i : ℕ) (k : Kind) (m : ℕ) → largest (λ n. box_accepts b (Use i k n)) 1000000000 < m → box_accepts b (Use i k m) ≡ false
afford_largest b i k m h = go (leb m 1000000000) refl
  where
    go : (x : Bool) → leb m 1000000000 ≡ x → box_accepts b (Use i k m) ≡ false
    go true e = largest_last (λ n. box_accepts b (Use i k n)) 1000000000 m h (leb-true m 1000000000 e)
    go false e = refused_many b i k m (leb-false m 1000000000 e)

afford_keeps : (b : Box) (i : ℕ) (k : Kind) → box_step b (Afford i k) ≡ b
unfolding box_step box_after cards_after plain after
afford_keeps b i k = go (box_accepts b (Afford i k))
  where
    go : (x : Bool) → cond x (box_after b (Afford i k)) b ≡ b
    go true = refl
    go false = refl

pub card_afford_is_largest : CardAffordIsLargest
unfolding box_afford
card_afford_is_largest = record {
  largest = λ b i k. record { passes = largest_passes (λ n. box_accepts b (Use i k n)) 1000000000; none_larger = afford_largest b i k };
  unchanged = afford_keeps;
}
