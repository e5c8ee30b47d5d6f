-- Every accepted call keeps a sound box sound, so the cards' units add up after any list. Assumes nothing.
use Prim.Native.Nat.{ℕ, zero, suc, ◌+◌, ◌≤◌, ◌<◌}
use mathlib.Core.Path.{◌≡◌, refl, ◌∙◌, ap}
use mathlib.Core.Bool.{Bool, true, false, cond, ◌&&◌}
use mathlib.Core.List.{List, [], ◌∷◌, map}
use native.Mathlib.Omega.{arith}
use lib.Dec.{leb}
use lib.ListN.{length, get_or, set}
use borrow.Author.Tests.{leb-true, le-leb, ltb-false, eq-eqb}
use Rattle.calendar.specs.Calendar.{starts_month}
use Rattle.tariff.specs.declared.Units.{Units}
use Rattle.tariff.specs.declared.Kind.{Kind}
use Rattle.tariff.specs.declared.Kind.TheVariants.{Data, Outgoing, Incoming, Sms}
use Rattle.tariff.specs.Units.{◌⊕◌, only}
use Rattle.tariff.proofs.Tests.{and_both, and_left, and_right}
use Rattle.state.specs.Use.{spent}
use Rattle.state.specs.Moves.{registered, topped, next_state_of}
use Rattle.account.specs.Whole.{spend, register_at, top_up_by, day_after}
use Rattle.account.specs.Calls.{after}
use Rattle.account.proofs.Kept.{sound_after, sound_passes}
use Rattle.cards.specs.declared.Card.{Card}
use Rattle.cards.specs.Cards.{no_card, cards_units, card_sound, cards_sound, used, use_at, cleared}
use Rattle.cards.proofs.Passes.{units_used}
use Rattle.family.specs.declared.BoxCall.{BoxCall}
use Rattle.family.specs.declared.BoxCall.TheVariants.{Register, Use, TopUp, NextDay, Afford}
use Rattle.family.specs.Box.{Box, plain, same_units, box_sound, beyond, box_accepts, cards_after, box_after, box_step}
use Rattle.family.proofs.Accepts.{BoxSound, account_accepts, card_there, card_within}
use Rattle.machine.specs.Machine as machine
use Rattle.family_ledger.specs.Lists.{box_run}

-- a card's soundness as facts
record CardSound (c : Card) : Type 0 where
  lifetime_ok : c.monthly ≤ c.lifetime.kb
  within_ok : c.monthly ≤ c.allowance
  range_ok : c.allowance ≤ 1000000000000

card_tells : (c : Card) → card_sound c ≡ true → CardSound c
card_tells c e =
    let x = leb c.monthly c.lifetime.kb in
    let y = leb c.monthly c.allowance in
    let z = leb c.allowance 1000000000000 in
    record {
      lifetime_ok = leb-true _ _ (and_left x y (and_left (x && y) z e));
      within_ok = leb-true _ _ (and_right x y (and_left (x && y) z e));
      range_ok = leb-true _ _ (and_right (x && y) z e);
    }

card_passes : (c : Card) → CardSound c → card_sound c ≡ true
card_passes c s = and_both _ _ (and_both _ _ (le-leb _ _ s.lifetime_ok) (le-leb _ _ s.within_ok)) (le-leb _ _ s.range_ok)

card_at : (cs : List Card) (i : ℕ) → i < length cs → cards_sound cs ≡ true → CardSound (get_or cs i no_card)
unfolding cards_sound
card_at [] i h e = absurd (omega arith)
card_at (c ∷ cs) zero h e = card_tells c (and_left (card_sound c) (cards_sound cs) e)
card_at (c ∷ cs) (suc i) h e = card_at cs i (omega arith) (and_right (card_sound c) (cards_sound cs) e)

sound_set : (cs : List Card) (i : ℕ) (c : Card) → card_sound c ≡ true → cards_sound cs ≡ true → cards_sound (set cs i c) ≡ true
unfolding cards_sound
sound_set [] i c f e = e
sound_set (d ∷ cs) zero c f e = and_both _ _ f (and_right (card_sound d) (cards_sound cs) e)
sound_set (d ∷ cs) (suc i) c f e = and_both _ _ (and_left (card_sound d) (cards_sound cs) e) (sound_set cs i c f (and_right (card_sound d) (cards_sound cs) e))

used_sound : (c : Card) (k : Kind) (n : ℕ) → beyond c k n ≡ false → CardSound c → CardSound (used c (only k n))
unfolding beyond
used_sound c Data n f s = record { lifetime_ok = omega (arith, s.lifetime_ok); within_ok = ltb-false _ _ f; range_ok = s.range_ok }
used_sound c Outgoing n f s = record { lifetime_ok = omega (arith, s.lifetime_ok); within_ok = omega (arith, s.within_ok); range_ok = s.range_ok }
used_sound c Incoming n f s = record { lifetime_ok = omega (arith, s.lifetime_ok); within_ok = omega (arith, s.within_ok); range_ok = s.range_ok }
used_sound c Sms n f s = record { lifetime_ok = omega (arith, s.lifetime_ok); within_ok = omega (arith, s.within_ok); range_ok = s.range_ok }

sound_used : (cs : List Card) (i : ℕ) (k : Kind) (n : ℕ) → i < length cs → beyond (get_or cs i no_card) k n ≡ false → cards_sound cs ≡ true → cards_sound (use_at cs i (only k n)) ≡ true
unfolding use_at
sound_used cs i k n t f e = sound_set cs i _ (card_passes _ (used_sound (get_or cs i no_card) k n f (card_at cs i t e))) e

-- the cards on a month's first day
sound_cleared : (cs : List Card) → cards_sound cs ≡ true → cards_sound (map cleared cs) ≡ true
unfolding cards_sound
sound_cleared [] e = refl
sound_cleared (c ∷ cs) e =
    let s = card_tells c (and_left (card_sound c) (cards_sound cs) e) in
    and_both _ _ (card_passes (cleared c) (record { lifetime_ok = omega arith; within_ok = omega arith; range_ok = s.range_ok })) (sound_cleared cs (and_right (card_sound c) (cards_sound cs) e))

units_cleared : (cs : List Card) → cards_units (map cleared cs) ≡ cards_units cs
unfolding cards_units
units_cleared [] = refl
units_cleared (c ∷ cs) = ap (λ (u : Units). c.lifetime ⊕ u) (units_cleared cs)

either_sound : (x : Bool) (cs : List Card) → cards_sound cs ≡ true → cards_sound (cond x (map cleared cs) cs) ≡ true
either_sound true cs e = sound_cleared cs e
either_sound false cs e = e

either_units : (x : Bool) (cs : List Card) → cards_units (cond x (map cleared cs) cs) ≡ cards_units cs
either_units true cs = units_cleared cs
either_units false cs = refl

-- every accepted call keeps the box sound
pub box_kept : (b : Box) (c : BoxCall) → box_accepts b c ≡ true → BoxSound b → BoxSound (box_after b c)
unfolding box_after cards_after plain after register_at registered top_up_by topped day_after next_state_of spend spent
box_kept b (Register p) e s = record { account_ok = sound_after b.account (plain (Register p)) (account_accepts b (Register p) e) s.account_ok; adds_up = s.adds_up; each_ok = s.each_ok }
box_kept b (Use i k n) e s =
    let t : i < length b.cards = card_there b i k n e in
    record {
      account_ok = sound_after b.account (plain (Use i k n)) (account_accepts b (Use i k n) e) s.account_ok;
      adds_up = units_used b.cards i (only k n) t ∙ ap (λ (u : Units). u ⊕ only k n) s.adds_up;
      each_ok = sound_used b.cards i k n t (card_within b i k n e) s.each_ok;
    }
box_kept b (TopUp n) e s = record { account_ok = sound_after b.account (plain (TopUp n)) (account_accepts b (TopUp n) e) s.account_ok; adds_up = s.adds_up; each_ok = s.each_ok }
box_kept b NextDay e s = record {
  account_ok = sound_after b.account (plain NextDay) (account_accepts b NextDay e) s.account_ok;
  adds_up = either_units (starts_month (b.account.state.day + 1)) b.cards ∙ s.adds_up;
  each_ok = either_sound (starts_month (b.account.state.day + 1)) b.cards s.each_ok;
}
box_kept b (Afford i k) e s = record { account_ok = sound_after b.account (plain (Afford i k)) (account_accepts b (Afford i k) e) s.account_ok; adds_up = s.adds_up; each_ok = s.each_ok }

pub box_step_kept : (b : Box) (c : BoxCall) → BoxSound b → BoxSound (box_step b c)
unfolding box_step
box_step_kept b c s = go (box_accepts b c) refl
  where
    go : (x : Bool) → box_accepts b c ≡ x → BoxSound (cond x (box_after b c) b)
    go true e = box_kept b c e s
    go false e = s

pub box_run_kept : (b : Box) (cs : List BoxCall) → BoxSound b → BoxSound (box_run b cs)
unfolding machine.run machine.step box_step
box_run_kept b [] s = s
box_run_kept b (c ∷ cs) s = box_run_kept (box_step b c) cs (box_step_kept b c s)

same_yes : (u v : Units) → u ≡ v → same_units u v ≡ true
same_yes u v e =
    and_both _ _ (and_both _ _ (and_both _ _ (eq-eqb _ _ (ap (λ (x : Units). x.kb) e)) (eq-eqb _ _ (ap (λ (x : Units). x.outgoing) e))) (eq-eqb _ _ (ap (λ (x : Units). x.incoming) e))) (eq-eqb _ _ (ap (λ (x : Units). x.sms) e))

pub box_passes : (b : Box) → BoxSound b → box_sound b ≡ true
unfolding box_sound
box_passes b s = and_both _ _ (sound_passes b.account s.account_ok) (and_both _ _ (same_yes _ _ s.adds_up) s.each_ok)
