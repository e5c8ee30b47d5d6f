-- Demand 3 of family boxes: the match, the sums of the cards, and the book, which is the account's of the calls that the box accepted. Assumes nothing.
use mathlib.Core.Path.{◌≡◌, refl, sym, ◌∙◌, ap, subst}
use mathlib.Core.Bool.{Bool, true, false, cond}
use mathlib.Core.List.{List, [], ◌∷◌, ◌++◌, map}
use native.Mathlib.Omega.{arith}
use lib.Dec.{leb}
use borrow.Author.Tests.{le-leb}
use Rattle.tariff.specs.declared.Plan.{Plan}
use Rattle.tariff.specs.Tests.{Reason, verdict_of, is_accepted}
use Rattle.tariff.specs.Units.{zero_units}
use Rattle.tariff.specs.Plan.{plan_reasons, plan_verdict}
use Rattle.tariff.proofs.Tests.{first_fails, rest_accepts, accepts_cons, and_both, and_left, and_right, not-false}
use Rattle.state.specs.Moves.{opened_state}
use Rattle.account.specs.declared.Account.{Account}
use Rattle.account.specs.declared.Call.{Call}
use Rattle.account.specs.Whole.{opened}
use Rattle.account.specs.Calls.{step}
use Rattle.account.proofs.Kept.{sound_opened}
use Rattle.cards.specs.declared.Card.{Card}
use Rattle.cards.specs.Cards.{cards_units, allowances_fit, cards_sound, fresh}
use Rattle.family.specs.declared.BoxCall.{BoxCall}
use Rattle.family.specs.Box.{Box, box_of, plain, box_sound, box_accepts, box_after, box_step}
use Rattle.family.specs.Answers.{card_reasons, open_reasons, open_verdict, BoxOpened, open_box}
use Rattle.family.proofs.Accepts.{BoxSound, box_tells, account_accepts}
use Rattle.machine.specs.Machine as machine
use Rattle.machine.proofs.Lengths.{one_more, end_is_last}
use Rattle.ledger.specs.Lists.{run}
use Rattle.ledger.specs.Journal.{Journal, Entry, Opening, new_opening, opening_of, new_journal, enter, write, answered}
use Rattle.ledger.specs.Demand3.{Shown, entries_of}
use Rattle.ledger.proofs.Book.{balanced, opening_new}
use Rattle.family_ledger.specs.Lists.{box_calls, box_run}
use Rattle.family_ledger.specs.Demand3.{BoxOpensAs, box_answered, box_entries, Claim, FamilyDemand3, FamilyFromSound, FamilyOneMoreThanCuts, FamilyEndIsCompared}
use Rattle.family_ledger.proofs.Laws.{box_matches}
use Rattle.family_ledger.proofs.Kept.{box_run_kept, box_passes}

-- the account's calls that the box accepted
pub accepted_calls : Box → List BoxCall → List Call
accepted_calls b [] = []
accepted_calls b (c ∷ cs) = cond (box_accepts b c) (plain c ∷ accepted_calls (box_step b c) cs) (accepted_calls (box_step b c) cs)

step_plain : (b : Box) (c : BoxCall) → box_accepts b c ≡ true → step b.account (plain c) ≡ (box_step b c).account
unfolding step box_step box_after
step_plain b c e = rw (e, account_accepts b c e) refl

step_none : (b : Box) (c : BoxCall) → box_accepts b c ≡ false → box_step b c ≡ b
unfolding box_step
step_none b c e = rw e refl

-- the account of a box after a list is the account after the calls that the box accepted
pub run_plain : (b : Box) (cs : List BoxCall) → run b.account (accepted_calls b cs) ≡ (box_run b cs).account
unfolding machine.run machine.step box_step step accepted_calls
run_plain b [] = refl
run_plain b (c ∷ cs) = go (box_accepts b c) refl (run_plain (box_step b c) cs)
  where
    go : (x : Bool) → box_accepts b c ≡ x → run (box_step b c).account (accepted_calls (box_step b c) cs) ≡ (box_run (box_step b c) cs).account
        → run b.account (cond x (plain c ∷ accepted_calls (box_step b c) cs) (accepted_calls (box_step b c) cs)) ≡ (box_run (box_step b c) cs).account
    go true e ih = ap (λ (a : Account). run a (accepted_calls (box_step b c) cs)) (step_plain b c e) ∙ ih
    go false e ih = ap (λ (z : Box). run z.account (accepted_calls (box_step b c) cs)) (sym (step_none b c e)) ∙ ih

-- and its book is the book of those calls
pub write_plain : (j : Journal) (b : Box) (cs : List BoxCall) → write j (answered b.account (accepted_calls b cs)) ≡ write j (box_answered b cs)
unfolding write answered box_answered accepted_calls
write_plain j b [] = refl
write_plain j b (c ∷ cs) = go (box_accepts b c) refl (λ k. write_plain k (box_step b c) cs)
  where
    go : (x : Bool) → box_accepts b c ≡ x → ((k : Journal) → write k (answered (box_step b c).account (accepted_calls (box_step b c) cs)) ≡ write k (box_answered (box_step b c) cs))
        → write j (answered b.account (cond x (plain c ∷ accepted_calls (box_step b c) cs) (accepted_calls (box_step b c) cs)))
        ≡ write (cond x (enter j (plain c)) j) (box_answered (box_step b c) cs)
    go true e ih =
        (λ i. write (cond (account_accepts b c e i) (enter j (plain c)) j) (answered (step_plain b c e i) (accepted_calls (box_step b c) cs)))
        ∙ ih (enter j (plain c))
    go false e ih = ap (λ (z : Box). write j (answered z.account (accepted_calls (box_step b c) cs))) (sym (step_none b c e)) ∙ ih j

-- the book of a box, from any sound one
box_shown : (b : Box) (xs : List BoxCall) → BoxSound b → Shown (opening_of b.account) (box_run b xs).account (box_entries (opening_of b.account) b xs)
unfolding box_entries entries_of
box_shown b xs s =
    let o = opening_of b.account in
    let zs = accepted_calls b xs in
    let h : Shown o (run b.account zs) (entries_of o b.account zs) = balanced b.account zs s.account_ok in
    let t : Shown o (box_run b xs).account (entries_of o b.account zs) = subst (λ (a : Account). Shown o a (entries_of o b.account zs)) (run_plain b xs) h in
    subst (λ (es : List Entry). Shown o (box_run b xs).account es) (ap (λ (j : Journal). j.entries) (write_plain (new_journal o) b xs)) t

pub family_from_sound : FamilyFromSound
family_from_sound b e xs ys =
    let s : BoxSound b = box_tells b e in
    let r : BoxSound (box_run b xs) = box_run_kept b xs s in
    record {
      matched = λ c. box_matches b s.account_ok.money.worked xs ys c;
      adds_up = r.adds_up;
      stays_sound = box_passes (box_run b xs) r;
      shown = box_shown b xs s;
    }

-- what an accepted opening tells
app_accepts : (rs ss : List Reason) → is_accepted (verdict_of (rs ++ ss)) ≡ true → (is_accepted (verdict_of rs) ≡ true) × (is_accepted (verdict_of ss) ≡ true)
unfolding verdict_of
app_accepts [] ss e = (refl, e)
app_accepts (r ∷ rs) ss e =
    let h = app_accepts rs ss (rest_accepts r (rs ++ ss) e) in
    (accepts_cons r rs (first_fails r (rs ++ ss) e) h.0, h.1)

units_fresh : (cs : List Card) → cards_units (map fresh cs) ≡ zero_units
unfolding cards_units
units_fresh [] = refl
units_fresh (c ∷ cs) = rw (units_fresh cs) refl

sound_fresh : (cs : List Card) → allowances_fit cs ≡ true → cards_sound (map fresh cs) ≡ true
unfolding allowances_fit cards_sound
sound_fresh [] e = refl
sound_fresh (c ∷ cs) e =
    let x = leb c.allowance 1000000000000 in
    and_both _ _ (and_both _ _ (and_both _ _ refl (le-leb 0 c.allowance (omega arith))) (and_left x (allowances_fit cs) e)) (sound_fresh cs (and_right x (allowances_fit cs) e))

-- the box that an accepted opening hands out
abbrev pub opened_with : Plan → List Card → Box
opened_with p cs = box_of (opened p) (map fresh cs)

opens_accepted : (p : Plan) (cs : List Card) (b : Box) → BoxOpensAs p cs b → is_accepted (open_verdict p cs) ≡ true
unfolding open_box
opens_accepted p cs b e = ap (λ (r : BoxOpened). is_accepted r.answer) e

opened_is : (p : Plan) (cs : List Card) (b : Box) → BoxOpensAs p cs b → opened_with p cs ≡ b
unfolding open_box
opened_is p cs b e =
    let v = opens_accepted p cs b e in
    let r = ap (λ (r : BoxOpened). r.box) e in
    rw v at r

pub opened_sound : (p : Plan) (cs : List Card) → is_accepted (open_verdict p cs) ≡ true → BoxSound (opened_with p cs)
unfolding open_verdict open_reasons card_reasons
opened_sound p cs e =
    let h = app_accepts (plan_reasons p) _ e in
    record {
      account_ok = sound_opened p (unfold plan_verdict in h.0);
      adds_up = unfold opened opened_state in units_fresh cs;
      each_ok = sound_fresh cs (not-false (allowances_fit cs) (first_fails _ _ (rest_accepts _ _ h.1)));
    }

pub family_demand_3 : FamilyDemand3
family_demand_3 p cs a b e f xs ys =
    let x : opened_with p cs ≡ a = opened_is p cs a e in
    let q : a ≡ b = sym x ∙ opened_is p cs b f in
    let s : box_sound a ≡ true = box_passes a (subst BoxSound x (opened_sound p cs (opens_accepted p cs a e))) in
    let n : opening_of a.account ≡ new_opening p = ap (λ (z : Box). opening_of z.account) (sym x) ∙ opening_new p in
    subst (λ (z : Box). Claim (new_opening p) a z xs ys) q (subst (λ (o : Opening). Claim o a a xs ys) n (family_from_sound a s xs ys))

pub family_one_more_than_cuts : FamilyOneMoreThanCuts
family_one_more_than_cuts b cs = one_more box_calls b cs

pub family_end_is_compared : FamilyEndIsCompared
family_end_is_compared a b cs = end_is_last box_calls a b cs
