-- What acceptance by a box tells: the account accepts, the card is there, and its allowance lets the use through. Assumes nothing.
use Prim.Native.Nat.{ℕ, ◌<◌}
use mathlib.Core.Path.{◌≡◌, refl, ap}
use mathlib.Core.Bool.{Bool, true, false, not, cond, ◌&&◌, ◌||◌}
use mathlib.Core.List.{List, [], ◌∷◌}
use lib.Dec.{ltb, eqb}
use lib.ListN.{length, get_or}
use borrow.Author.Tests.{eqb-true, ltb-true, not-false}
use Rattle.tariff.specs.declared.Units.{Units}
use Rattle.tariff.specs.declared.Kind.{Kind}
use Rattle.tariff.specs.Refusal.{refusal_number}
use Rattle.tariff.specs.Tests.{Reason, because, verdict_of, is_accepted}
use Rattle.tariff.specs.Units.{only, ◌⊕◌, AtMost}
use Rattle.tariff.proofs.Tests.{and_left, and_right, first_fails, rest_accepts, accepts_cons}
use Rattle.presence.specs.Log.{lifetime_most}
use Rattle.state.specs.Use.{spent}
use Rattle.account.specs.declared.Call.TheVariants as plain-call
use Rattle.account.specs.Whole.{sound, spend}
use Rattle.account.specs.Calls.{own_reasons, reasons, verdict, accepts, after}
use Rattle.account.proofs.Kept.{Sound, sound_tells, sound_after}
use Rattle.cards.specs.Cards.{no_card, cards_units, cards_sound}
use Rattle.family.specs.declared.BoxCall.{BoxCall}
use Rattle.family.specs.declared.BoxCall.TheVariants.{Register, Use, TopUp, NextDay, Afford}
use Rattle.family.specs.Box.{Box, plain, same_units, box_sound, no_such_card, beyond, before, with_allowance, box_reasons, box_verdict, box_accepts}
use Rattle.tariff.specs.declared.Refusal.TheVariants.{CardAllowance}

-- a reason put among others: it does not hold, and the others accept
pub before_fails : (m : ℕ) (r : Reason) (rs : List Reason) → is_accepted (verdict_of (before m r rs)) ≡ true → r.holds ≡ false
unfolding before
before_fails m r [] e = first_fails r [] e
before_fails m r (x ∷ xs) e = go (eqb (refusal_number x.refusal) m) e (before_fails m r xs)
  where
    go : (b : Bool) → is_accepted (verdict_of (cond b (r ∷ x ∷ xs) (x ∷ before m r xs))) ≡ true → (is_accepted (verdict_of (before m r xs)) ≡ true → r.holds ≡ false) → r.holds ≡ false
    go true f ih = first_fails r (x ∷ xs) f
    go false f ih = ih (rest_accepts x (before m r xs) f)

pub others_accept : (m : ℕ) (r : Reason) (rs : List Reason) → is_accepted (verdict_of (before m r rs)) ≡ true → is_accepted (verdict_of rs) ≡ true
unfolding before
others_accept m r [] e = rest_accepts r [] e
others_accept m r (x ∷ xs) e = go (eqb (refusal_number x.refusal) m) e (others_accept m r xs)
  where
    go : (b : Bool) → is_accepted (verdict_of (cond b (r ∷ x ∷ xs) (x ∷ before m r xs))) ≡ true
        → (is_accepted (verdict_of (before m r xs)) ≡ true → is_accepted (verdict_of xs) ≡ true) → is_accepted (verdict_of (x ∷ xs)) ≡ true
    go true f ih = rest_accepts r (x ∷ xs) f
    go false f ih = accepts_cons x xs (first_fails x (before m r xs) f) (ih (rest_accepts x (before m r xs) f))

-- the other way: all accept where it does not hold and the others accept
pub before_accepts : (m : ℕ) (r : Reason) (rs : List Reason) → r.holds ≡ false → is_accepted (verdict_of rs) ≡ true → is_accepted (verdict_of (before m r rs)) ≡ true
unfolding before
before_accepts m r [] e h = accepts_cons r [] e h
before_accepts m r (x ∷ xs) e h = go (eqb (refusal_number x.refusal) m) (before_accepts m r xs e (rest_accepts x xs h))
  where
    go : (b : Bool) → is_accepted (verdict_of (before m r xs)) ≡ true → is_accepted (verdict_of (cond b (r ∷ x ∷ xs) (x ∷ before m r xs))) ≡ true
    go true ih = accepts_cons r (x ∷ xs) e h
    go false ih = accepts_cons x (before m r xs) (first_fails x xs h) ih

same_tells : (u v : Units) → same_units u v ≡ true → u ≡ v
same_tells u v e =
    let a = eqb u.kb v.kb in
    let b = eqb u.outgoing v.outgoing in
    let c = eqb u.incoming v.incoming in
    let d = eqb u.sms v.sms in
    let x : a && b && c ≡ true = and_left (a && b && c) d e in
    let y : a && b ≡ true = and_left (a && b) c x in
    λ i. record {
      kb = eqb-true u.kb v.kb (and_left a b y) i;
      outgoing = eqb-true u.outgoing v.outgoing (and_right a b y) i;
      incoming = eqb-true u.incoming v.incoming (and_right (a && b) c x) i;
      sms = eqb-true u.sms v.sms (and_right (a && b && c) d e) i;
    }

-- soundness of a box as facts
pub record BoxSound (b : Box) : Type 0 where
  pub account_ok : Sound b.account
  pub adds_up : cards_units b.cards ≡ b.account.state.meters.lifetime
  pub each_ok : cards_sound b.cards ≡ true

pub box_tells : (b : Box) → box_sound b ≡ true → BoxSound b
unfolding box_sound
box_tells b e =
    let x = sound b.account in
    let y = same_units (cards_units b.cards) b.account.state.meters.lifetime in
    let z = cards_sound b.cards in
    record {
      account_ok = sound_tells b.account (and_left x (y && z) e);
      adds_up = same_tells _ _ (and_left y z (and_right x (y && z) e));
      each_ok = and_right y z (and_right x (y && z) e);
    }

pub has_sound : (b : Box) (c : BoxCall) → box_accepts b c ≡ true → box_sound b ≡ true
unfolding box_accepts box_verdict box_reasons
has_sound b c e = not-false (box_sound b) (first_fails _ _ e)

pub has_account : (b : Box) → box_sound b ≡ true → sound b.account ≡ true
unfolding box_sound
has_account b e = and_left (sound b.account) _ e

own_accept : (b : Box) (c : BoxCall) → is_accepted (verdict_of (with_allowance b.cards c (own_reasons b.account (plain c)))) ≡ true → is_accepted (verdict_of (own_reasons b.account (plain c))) ≡ true
unfolding with_allowance
own_accept b (Register p) e = e
own_accept b (Use i k n) e = others_accept 6 _ _ e
own_accept b (TopUp n) e = e
own_accept b NextDay e = e
own_accept b (Afford i k) e = e

-- what the box accepts, its account accepts
pub account_accepts : (b : Box) (c : BoxCall) → box_accepts b c ≡ true → accepts b.account (plain c) ≡ true
unfolding accepts verdict reasons box_accepts box_verdict box_reasons
account_accepts b c e =
    accepts_cons _ _ (ap not (has_account b (has_sound b c e))) (own_accept b c (rest_accepts _ _ (rest_accepts _ _ e)))

-- of a use: the card is there, and its allowance has room
pub card_there : (b : Box) (i : ℕ) (k : Kind) (n : ℕ) → box_accepts b (Use i k n) ≡ true → i < length b.cards
unfolding box_accepts box_verdict box_reasons no_such_card
card_there b i k n e = ltb-true i (length b.cards) (not-false (ltb i (length b.cards)) (or_left _ _ (first_fails _ _ (rest_accepts _ _ e))))
  where
    or_left : (x y : Bool) → x || y ≡ false → x ≡ false
    or_left true y h = h
    or_left false y h = refl

pub card_within : (b : Box) (i : ℕ) (k : Kind) (n : ℕ) → box_accepts b (Use i k n) ≡ true → beyond (get_or b.cards i no_card) k n ≡ false
unfolding box_accepts box_verdict box_reasons with_allowance
card_within b i k n e = before_fails 6 (because CardAllowance (beyond (get_or b.cards i no_card) k n)) _ (rest_accepts _ _ (rest_accepts _ _ e))

-- lifetime units stay within their limit
pub lifetime_room : (b : Box) (i : ℕ) (k : Kind) (n : ℕ) → box_accepts b (Use i k n) ≡ true → AtMost (b.account.state.meters.lifetime ⊕ only k n) lifetime_most
lifetime_room b i k n e =
    let s = box_tells b (has_sound b (Use i k n) e) in
    let r = (sound_after b.account (plain-call.Use k n) (unfold plain in account_accepts b (Use i k n) e) s.account_ok).counters.lifetime_ok in
    unfold after spend spent in r
