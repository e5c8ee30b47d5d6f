-- A box with one card of the largest allowance behaves as the account alone: where 20 would hold, 5 does, and 5 comes first. Assumes nothing.
use Prim.Native.Nat.{ℕ, ◌+◌, ◌≤◌}
use mathlib.Core.Path.{◌≡◌, refl, sym, ◌∙◌, ap, subst}
use mathlib.Core.Bool.{Bool, true, false, not, cond, ◌&&◌}
use mathlib.Core.List.{List, [], ◌∷◌, ◌++◌, map}
use native.Mathlib.Omega.{arith}
use lib.Dec.{leb, ltb}
use borrow.Author.Tests.{le-ltb, leb-true}
use Rattle.calendar.specs.Calendar.{starts_month}
use Rattle.tariff.specs.declared.Units.{Units}
use Rattle.tariff.specs.declared.Kind.{Kind}
use Rattle.tariff.specs.declared.Kind.TheVariants.{Data, Outgoing, Incoming, Sms}
use Rattle.tariff.specs.declared.Plan.{Plan}
use Rattle.tariff.specs.Tests.{Reason, because, verdict_of, is_accepted, between}
use Rattle.tariff.specs.Units.{only}
use Rattle.tariff.specs.Plan.{plan_reasons, plan_verdict}
use Rattle.tariff.proofs.Tests.{and_left}
use Rattle.presence.specs.Day.{is_placed}
use Rattle.state.specs.declared.Outcome.TheVariants.{UpTo}
use Rattle.state.specs.Use.{charged_units, cost}
use Rattle.state.specs.Reasons.{overfills, use_reasons, answer_by}
use Rattle.state.proofs.Verdicts.{has_room}
use Rattle.account.specs.declared.Account.{Account}
use Rattle.account.specs.declared.Call.{Call}
use Rattle.account.specs.declared.Call.TheVariants as plain-call
use Rattle.account.specs.Whole.{sound, opened}
use Rattle.account.specs.Calls.{own_reasons, reasons, verdict, accepts, after, step}
use Rattle.account.specs.Answers.{no_plan, open_answer, afford_of, accepted_answer, applied}
use Rattle.account.proofs.Search.{largest_same}
use Rattle.account.proofs.Kept.{no_plan_unsound}
use Rattle.cards.specs.declared.Card.{Card}
use Rattle.cards.specs.Cards.{cards_units, allowances_fit, cards_sound, used, use_at, cleared, fresh}
use Rattle.family.specs.declared.BoxCall.TheVariants.{Use}
use Rattle.family.specs.Box.{Box, box_of, plain, box_sound, no_such_card, beyond, before, with_allowance, box_reasons, box_verdict, box_accepts, cards_after, box_after, box_step}
use Rattle.family.specs.Answers.{card_reasons, open_reasons, open_verdict, open_box, box_afford, box_answer, box_applied}
use Rattle.family.proofs.Accepts.{BoxSound, box_tells, has_account}
use Rattle.machine.specs.Machine as machine
use Rattle.ledger.specs.Lists.{run}
use Rattle.family_ledger.specs.Claims.{on_first, answers, box_answers, AsPlain, LargestAllowance, OneCardIsPlain}
use Rattle.family_ledger.specs.Lists.{box_run}
use Rattle.family_ledger.proofs.Kept.{box_step_kept, box_passes}
use Rattle.family_ledger.proofs.Claims.{opened_sound}
use Rattle.std.specs.Prelude.{Result, Ok, Err, ⊤}
use Rattle.tariff.specs.declared.Refusal.{Refusal}
use Rattle.tariff.specs.declared.Refusal.TheVariants.{Unplaced, UnitCount, MeterFull, OverCredit, CardPlace, CardAllowance}

-- a box with one card
abbrev one : Account → Card → Box
one a c = box_of a (c ∷ [])

-- the card's lifetime units are the account's, and its month's kB are no more
monthly_most : (a : Account) (c : Card) → box_sound (one a c) ≡ true → c.monthly ≤ a.state.meters.lifetime.kb
unfolding cards_units cards_sound
monthly_most a c e =
    let s = box_tells (one a c) e in
    let x = leb c.monthly c.lifetime.kb in
    let y = leb c.monthly c.allowance in
    let z = leb c.allowance 1000000000000 in
    let m : c.monthly ≤ c.lifetime.kb = leb-true _ _ (and_left x y (and_left (x && y) z (and_left (x && y && z) true s.each_ok))) in
    let l : c.lifetime.kb + 0 ≡ a.state.meters.lifetime.kb = ap (λ (u : Units). u.kb) s.adds_up in
    omega arith

-- where 5 does not hold, 20 does not
not_beyond : (a : Account) (c : Card) (k : Kind) (n : ℕ) → LargestAllowance c → box_sound (one a c) ≡ true → overfills a.state k n ≡ false → beyond c k n ≡ false
unfolding beyond
not_beyond a c Data n w e f = le-ltb c.allowance (c.monthly + n) (omega (arith, w, monthly_most a c e, (has_room a.state Data n f).units))
not_beyond a c Outgoing n w e f = refl
not_beyond a c Incoming n w e f = refl
not_beyond a c Sms n w e f = refl

-- the last test of a use
abbrev credit_test : Account → Kind → ℕ → Result ⊤ Refusal
credit_test a k n = cond (ltb a.state.money.credit (cost a.state (charged_units a.state.place k n))) (Err OverCredit) (Ok tt)

-- the reasons of a use on one card, and of the account's use
use_verdict : (a : Account) (c : Card) (k : Kind) (n : ℕ) → LargestAllowance c → box_sound (one a c) ≡ true
    → verdict_of (before 6 (because CardAllowance (beyond c k n)) (use_reasons a.state k n)) ≡ verdict_of (use_reasons a.state k n)
unfolding before use_reasons verdict_of
use_verdict a c k n w e = go (overfills a.state k n) refl
  where
    go : (x : Bool) → overfills a.state k n ≡ x
        → cond (not (is_placed a.state.place)) (Err Unplaced) (cond (not (between 1 n 1000000000)) (Err UnitCount) (cond x (Err MeterFull)
        (cond (beyond c k n) (Err CardAllowance) (credit_test a k n))))
        ≡ cond (not (is_placed a.state.place)) (Err Unplaced) (cond (not (between 1 n 1000000000)) (Err UnitCount) (cond x (Err MeterFull)
        (credit_test a k n)))
    go true f = refl
    go false f = rw (not_beyond a c k n w e f) refl

-- the box is sound just where the account is
abbrev Alike : Account → Card → Type 0
Alike a c = LargestAllowance c × (box_sound (one a c) ≡ sound a)

own_verdict : (a : Account) (c : Card) (x : Call) → LargestAllowance c → box_sound (one a c) ≡ true
    → verdict_of (because CardPlace (no_such_card (on_first x) 1) ∷ with_allowance (c ∷ []) (on_first x) (own_reasons a (plain (on_first x)))) ≡ verdict_of (own_reasons a x)
unfolding on_first plain no_such_card with_allowance own_reasons verdict_of
own_verdict a c (plain-call.Register p) w e = refl
own_verdict a c (plain-call.Use k n) w e = use_verdict a c k n w e
own_verdict a c (plain-call.TopUp n) w e = refl
own_verdict a c plain-call.NextDay w e = refl
own_verdict a c (plain-call.Afford k) w e = refl

verdict_same : (a : Account) (c : Card) (x : Call) → Alike a c → box_verdict (one a c) (on_first x) ≡ verdict a x
unfolding box_verdict box_reasons verdict reasons verdict_of
verdict_same a c x h = go (sound a) refl
  where
    go : (s : Bool) → sound a ≡ s → box_verdict (one a c) (on_first x) ≡ verdict a x
    go true f = rw (h.1, f) (own_verdict a c x h.0 (h.1 ∙ f))
    go false f = rw (h.1, f) refl

accepts_same : (a : Account) (c : Card) (x : Call) → Alike a c → box_accepts (one a c) (on_first x) ≡ accepts a x
unfolding box_accepts accepts
accepts_same a c x h = ap is_accepted (verdict_same a c x h)

use_same : (a : Account) (c : Card) (k : Kind) (n : ℕ) → Alike a c → box_accepts (one a c) (Use 0 k n) ≡ accepts a (plain-call.Use k n)
unfolding on_first
use_same a c k n h = accepts_same a c (plain-call.Use k n) h

answer_same : (a : Account) (c : Card) (x : Call) → Alike a c → box_answer (one a c) (on_first x) ≡ accepted_answer a x
unfolding box_answer on_first plain accepted_answer box_afford afford_of
answer_same a c (plain-call.Register p) h = refl
answer_same a c (plain-call.Use k n) h = refl
answer_same a c (plain-call.TopUp n) h = refl
answer_same a c plain-call.NextDay h = refl
answer_same a c (plain-call.Afford k) h =
    ap UpTo (largest_same (λ n. box_accepts (one a c) (Use 0 k n)) (λ n. accepts a (plain-call.Use k n)) 1000000000 (λ n. use_same a c k n h))

applied_same : (a : Account) (c : Card) (x : Call) → Alike a c → (box_applied (one a c) (on_first x)).answer ≡ (applied a x).answer
unfolding box_applied applied
applied_same a c x h = λ i. answer_by (verdict_same a c x h i) (answer_same a c x h i)

-- the one card after a call
card_then : Account → Card → Call → Card
card_then a c (plain-call.Register p) = c
card_then a c (plain-call.Use k n) = used c (only k n)
card_then a c (plain-call.TopUp n) = c
card_then a c plain-call.NextDay = cond (starts_month (a.state.day + 1)) (cleared c) c
card_then a c (plain-call.Afford k) = c

next_card : Account → Card → Call → Card
next_card a c x = cond (accepts a x) (card_then a c x) c

then_largest : (a : Account) (c : Card) (x : Call) → LargestAllowance c → LargestAllowance (card_then a c x)
unfolding card_then
then_largest a c (plain-call.Register p) w = w
then_largest a c (plain-call.Use k n) w = w
then_largest a c (plain-call.TopUp n) w = w
then_largest a c plain-call.NextDay w = go (starts_month (a.state.day + 1))
  where
    go : (y : Bool) → LargestAllowance (cond y (cleared c) c)
    go true = w
    go false = w
then_largest a c (plain-call.Afford k) w = w

next_largest : (a : Account) (c : Card) (x : Call) → LargestAllowance c → LargestAllowance (next_card a c x)
unfolding next_card
next_largest a c x w = go (accepts a x)
  where
    go : (y : Bool) → LargestAllowance (cond y (card_then a c x) c)
    go true = then_largest a c x w
    go false = w

after_same : (a : Account) (c : Card) (x : Call) → box_after (one a c) (on_first x) ≡ one (after a x) (card_then a c x)
unfolding box_after cards_after use_at on_first plain after card_then
after_same a c (plain-call.Register p) = refl
after_same a c (plain-call.Use k n) = refl
after_same a c (plain-call.TopUp n) = refl
after_same a c plain-call.NextDay = go (starts_month (a.state.day + 1))
  where
    go : (y : Bool) → box_of (after a plain-call.NextDay) (cond y (map cleared (c ∷ [])) (c ∷ [])) ≡ one (after a plain-call.NextDay) (cond y (cleared c) c)
    go true = refl
    go false = refl
after_same a c (plain-call.Afford k) = refl

step_same : (a : Account) (c : Card) (x : Call) → Alike a c → box_step (one a c) (on_first x) ≡ one (step a x) (next_card a c x)
unfolding box_step step next_card
step_same a c x h = go (accepts a x) (accepts_same a c x h)
  where
    go : (y : Bool) → box_accepts (one a c) (on_first x) ≡ y
        → cond (box_accepts (one a c) (on_first x)) (box_after (one a c) (on_first x)) (one a c) ≡ one (cond y (after a x) a) (cond y (card_then a c x) c)
    go true e = rw e (after_same a c x)
    go false e = rw e refl

refused_unsound : (a : Account) (x : Call) → sound a ≡ false → accepts a x ≡ false
unfolding accepts verdict reasons verdict_of
refused_unsound a x e = rw e refl

unsound_same : (a : Account) (c : Card) (x : Call) → sound a ≡ false → one (step a x) (next_card a c x) ≡ one a c
unfolding step next_card
unsound_same a c x e = rw (refused_unsound a x e) refl

-- and it stays so
alike_next : (a : Account) (c : Card) (x : Call) → Alike a c → Alike (step a x) (next_card a c x)
alike_next a c x h = (next_largest a c x h.0, go (sound a) refl)
  where
    go : (s : Bool) → sound a ≡ s → box_sound (one (step a x) (next_card a c x)) ≡ sound (step a x)
    go true f =
        let s : BoxSound (box_step (one a c) (on_first x)) = box_step_kept (one a c) (on_first x) (box_tells (one a c) (h.1 ∙ f)) in
        let t : box_sound (one (step a x) (next_card a c x)) ≡ true = box_passes _ (subst BoxSound (step_same a c x h) s) in
        t ∙ sym (has_account (one (step a x) (next_card a c x)) t)
    go false f = subst (λ (z : Box). box_sound z ≡ sound z.account) (sym (unsound_same a c x f)) h.1

answers_same : (a : Account) (c : Card) (xs : List Call) → Alike a c → box_answers (one a c) (map on_first xs) ≡ answers a xs
unfolding box_answers answers
answers_same a c [] h = refl
answers_same a c (x ∷ xs) h =
    let ih : box_answers (one (step a x) (next_card a c x)) (map on_first xs) ≡ answers (step a x) xs = answers_same (step a x) (next_card a c x) xs (alike_next a c x h) in
    let t : box_answers (box_step (one a c) (on_first x)) (map on_first xs) ≡ answers (step a x) xs = ap (λ (z : Box). box_answers z (map on_first xs)) (step_same a c x h) ∙ ih in
    λ i. applied_same a c x h i ∷ t i

run_same : (a : Account) (c : Card) (xs : List Call) → Alike a c → (box_run (one a c) (map on_first xs)).account ≡ run a xs
unfolding machine.run machine.step box_step step
run_same a c [] h = refl
run_same a c (x ∷ xs) h = ap (λ (z : Box). (box_run z (map on_first xs)).account) (step_same a c x h) ∙ run_same (step a x) (next_card a c x) xs (alike_next a c x h)

as_plain : (a : Account) (c : Card) → Alike a c → (xs : List Call) → AsPlain a (one a c) xs
as_plain a c h xs = record { same_answers = answers_same a c xs h; same_account = run_same a c xs h }

-- opening one card: its own reasons do not hold
app_accepted : (rs ss : List Reason) → verdict_of ss ≡ Ok tt → verdict_of (rs ++ ss) ≡ verdict_of rs
unfolding verdict_of
app_accepted [] ss e = e
app_accepted (r ∷ rs) ss e = ap (λ (v : Result ⊤ Refusal). cond r.holds (Err r.refusal) v) (app_accepted rs ss e)

fits_one : (c : Card) → LargestAllowance c → allowances_fit (c ∷ []) ≡ true
unfolding allowances_fit
fits_one c w = rw w refl

opens_same : (p : Plan) (c : Card) → LargestAllowance c → open_verdict p (c ∷ []) ≡ plan_verdict p
unfolding open_verdict open_reasons card_reasons plan_verdict verdict_of
opens_same p c w = app_accepted (plan_reasons p) _ (rw (fits_one c w) refl)

opened_alike : (p : Plan) (c : Card) → LargestAllowance c → is_accepted (plan_verdict p) ≡ true → Alike (opened p) (fresh c)
opened_alike p c w e =
    let t : box_sound (one (opened p) (fresh c)) ≡ true = box_passes _ (opened_sound p (c ∷ []) (ap is_accepted (opens_same p c w) ∙ e)) in
    (w, t ∙ sym (has_account (one (opened p) (fresh c)) t))

unopened_alike : (c : Card) → LargestAllowance c → Alike (opened no_plan) c
unfolding box_sound
unopened_alike c w = (w, rw no_plan_unsound refl)

from_opening : (p : Plan) (c : Card) → LargestAllowance c → (xs : List Call) → AsPlain (open_answer p).account (open_box p (c ∷ [])).box xs
unfolding open_answer open_box
from_opening p c w xs = rw (opens_same p c w) (go (is_accepted (plan_verdict p)) refl)
  where
    go : (y : Bool) → is_accepted (plan_verdict p) ≡ y
        → AsPlain (cond y (opened p) (opened no_plan)) (cond y (box_of (opened p) (map fresh (c ∷ []))) (box_of (opened no_plan) (c ∷ []))) xs
    go true e = as_plain (opened p) (fresh c) (opened_alike p c w e) xs
    go false e = as_plain (opened no_plan) c (unopened_alike c w) xs

pub one_card_is_plain : OneCardIsPlain
unfolding open_answer open_box
one_card_is_plain = record {
  opens = opens_same;
  from_opening = from_opening;
  from_sound = λ a c w e xs. as_plain a c (w, e ∙ sym (has_account (one a c) e)) xs;
}
