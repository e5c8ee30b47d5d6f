-- Calls on a family box in the caller's memory, by what a pass over its cards found. Assumes nothing.
use Prim.Native.Nat.{ℕ, ◌≤◌}
use mathlib.Core.Path.{◌≡◌, refl, sym, ◌∙◌, ap, subst}
use mathlib.Core.Bool.{Bool, true, false, cond, ◌&&◌, false≢true}
use mathlib.Core.List.{List, ◌++◌, map}
use native.Mathlib.Omega.{arith}
use lib.Dec.{eqb}
use lib.ListN.{length, take, drop}
use borrow.Author.Tests.{eq-eqb, ne_eqb}
use Rattle.tariff.specs.declared.Kind.{Kind}
use Rattle.tariff.specs.declared.Plan.{Plan}
use Rattle.tariff.specs.Tests.{Reason, verdict_of, is_accepted}
use Rattle.tariff.specs.declared.Terms.{Terms}
use Rattle.tariff.specs.Plan.{plan_with, plan_reasons, plan_verdict, terms_reasons, plan_of}
use Rattle.tariff.proofs.Tests.{and_right}
use Rattle.tariff.proofs.PlanLaws.{known_form, form_known}
use Rattle.tariff.proofs.Verdicts.{then, verdict-append, then_both}
use Rattle.state.specs.declared.Outcome.{Outcome}
use Rattle.state.specs.declared.Outcome.TheVariants.{Done, Charged, UpTo}
use Rattle.state.specs.declared.State.{State}
use Rattle.state.specs.declared.StateApplied.{StateApplied}
use Rattle.state.specs.Reasons.{answer_by, is_taken}
use Rattle.account.specs.declared.Account.{Account}
use Rattle.account.specs.declared.Applied.{Applied}
use Rattle.account.specs.declared.Call.TheVariants as plain-call
use Rattle.account.specs.Whole.{sound, opened}
use Rattle.account.specs.Calls.{verdict, step}
use Rattle.account.specs.Answers.{accepted_answer, applied, applied_state, account_of}
use Rattle.account.proofs.Returns.{use_keeps}
use Rattle.numbers.specs.Numbers.{terms_from, account_numbers, account_from, is_account}
use Rattle.numbers.proofs.Back.{account_length, account_back, numbers_back}
use Rattle.cards.specs.declared.Card.{Card}
use Rattle.cards.specs.declared.Survey.{Survey}
use Rattle.cards.specs.Cards.{fresh}
use Rattle.cards.specs.Survey.{start, survey_of, changed}
use Rattle.family.specs.declared.BoxCall.{BoxCall}
use Rattle.family.specs.declared.BoxCall.TheVariants.{Register, Use, TopUp, NextDay, Afford}
use Rattle.family.specs.Box.{Box, box_of, plain, beyond, box_step}
use Rattle.family.specs.Answers.{box_applied, card_reasons, open_reasons, open_verdict, open_box}
use Rattle.family.specs.Seen.{card_place, cards_fit, card_missing, beyond_refusal, room_of, answer_within, within_card}
use Rattle.family.specs.Seen.{card_read, declined_state, with_log, seen_applied, seen_change, no_change, found_reasons, seen_verdict}
use Rattle.family.specs.Seen.{opening_change}
use Rattle.family.proofs.Returns.{seen_0, seen_19, seen_plain}
use Rattle.family.proofs.Ties.{called_is, cards_are, taken_is, reasons_are, put_back}
use Rattle.meter.specs.declared.boxes.BoxAnswered.{BoxAnswered}
use Rattle.meter.specs.declared.boxes.BoxReturned.{BoxReturned}
use Rattle.meter.specs.Answers.{bad_argument, verdict_code, answer_code, answer_laid}
use Rattle.meter.specs.Calls.{kind_from, is_place, place_named, kind_with_room, answer_size, settled, Settles}
use Rattle.meter.specs.Boxes.{box_call, is_box_call, box_call_answer, box_call_numbers, box_call_cards}
use Rattle.meter.specs.Boxes.{box_code, box_numbers, box_cards, box_laid}
use Rattle.meter.specs.Boxes.{box_open_verdict, box_opens, box_open_code, box_open_numbers, box_open_cards}
use Rattle.meter.specs.Boxes.{found_answer, found_numbers, found_change, found_returned}
use Rattle.meter.specs.Boxes.{found_verdict, found_opens, found_opened}
use Rattle.meter.specs.Claims.{BoxCallsFollowTheBox, RefusedChangesNoCard}
use Rattle.meter.proofs.Open.{granted_is, declined_is, granted_opens}
use Rattle.meter.proofs.Held.{account_again, joined_length, new_length, settles_of, Handed, call_handed, settled_is, few_numbers, room_is}
use Rattle.std.specs.Prelude.{Result, Ok, Err, ⊤}
use Rattle.tariff.specs.declared.Refusal.{Refusal}
use Rattle.tariff.specs.Refusal.{refusal_number}
use Rattle.tariff.specs.declared.Refusal.TheVariants.{Unsound, CardPlace}

refused_handed : (a : Account) (n : Refusal) → Handed a (record { answer = Err n; account = a })
refused_handed a n = record { next_sound = λ h. absurd (false≢true h); same = λ h. refl; sized = λ h. h }

-- a refusal beside the account with the log that a use leaves
beyond_handed : (a : Account) (k : Kind) (m : ℕ) (n : Refusal)
    → Handed a (record { answer = Err n; account = account_of a.state (step a (plain-call.Use k m)).log })
beyond_handed a k m n =
    subst (λ (l : List ℕ). Handed a (record { answer = Err n; account = account_of a.state l })) (sym (use_keeps a k m)) (refused_handed a n)

taken_within : (x : Result Outcome Refusal) (r : ℕ) → is_taken (answer_within x r) ≡ is_taken x
taken_within (Ok Done) r = refl
taken_within (Ok (Charged c)) r = refl
taken_within (Ok (UpTo n)) r = refl
taken_within (Err n) r = refl

within_handed : (a : Account) (d : Card) (c : BoxCall)
    → Handed a (with_log (applied a (plain c)).account (within_card a.state (applied_state (applied a (plain c))) d c))
unfolding plain
within_handed a d (Register p) = call_handed a (plain-call.Register p)
within_handed a d (Use i k n) = go (beyond d k n)
  where
    go : (t : Bool) → Handed a (with_log (applied a (plain-call.Use k n)).account
        (cond t (declined_state a.state (beyond_refusal (applied a (plain-call.Use k n)).answer)) (applied_state (applied a (plain-call.Use k n)))))
    go true = unfold applied in beyond_handed a k n _
    go false = call_handed a (plain-call.Use k n)
within_handed a d (TopUp n) = call_handed a (plain-call.TopUp n)
within_handed a d NextDay = call_handed a plain-call.NextDay
within_handed a d (Afford i k) =
    let h = call_handed a (plain-call.Afford k) in
    let e = taken_within (applied a (plain-call.Afford k)).answer (room_of d k) in
    record { next_sound = λ t. h.next_sound (sym e ∙ t); same = λ t. h.same (sym e ∙ t); sized = h.sized }

-- what a call hands back, whatever a pass found
pub seen_handed : (a : Account) (s : Survey) (c : BoxCall) → Handed a (seen_applied a s c)
seen_handed a s c = go (cards_fit a.state s) (card_missing s c) refl refl
  where
    go : (f m : Bool) → cards_fit a.state s ≡ f → card_missing s c ≡ m → Handed a (seen_applied a s c)
    go false m e₁ e₂ = subst (Handed a) (seen_0 a s c e₁) (refused_handed a Unsound)
    go true true e₁ e₂ = subst (Handed a) (seen_19 a s c e₁ e₂) (refused_handed a (cond (sound a) CardPlace Unsound))
    go true false e₁ e₂ = subst (Handed a) (seen_plain a s c e₁ e₂) (within_handed a (card_read s) c)

-- numbers that stand for no account
pub found_none : (xs : List ℕ) (s : Survey) (c : BoxCall) → is_account xs ≡ false
    → ◌≡◌ {A = BoxAnswered} (record { answer = Err Unsound; change = no_change (card_place c) s })
    (record { answer = found_answer xs s c; change = found_change xs s c })
    × (xs ≡ found_numbers xs s c)
unfolding found_answer found_change found_numbers
found_none xs s c e = (rw e refl, rw e refl)

-- the answer, the cards and the numbers after a call, from what it answers with all but the log, and the log
pub found_done : (xs l : List ℕ) (s : Survey) (c : BoxCall) (x : StateApplied) → is_account xs ≡ true
    → x ≡ applied_state (seen_applied (account_from xs) s c) → l ≡ (seen_applied (account_from xs) s c).account.log
    → ◌≡◌ {A = BoxAnswered} (record { answer = x.answer; change = seen_change x s c })
    (record { answer = found_answer xs s c; change = found_change xs s c })
    × (settled x (l ++ drop 1599 xs) ≡ found_numbers xs s c)
unfolding found_answer found_change found_numbers
found_done xs l s c x h e f = (
  rw h (ap (λ (y : StateApplied). record { answer = y.answer; change = seen_change y s c }) e),
  rw h (ap (λ (y : StateApplied). settled y (l ++ drop 1599 xs)) e
      ∙ settled_is xs l (seen_applied (account_from xs) s c) h (seen_handed (account_from xs) s c) f),
)

-- the same from the state and the log's part that the call was made on
module _ (xs l m : List ℕ) (s : Survey) (c : BoxCall) (t : State) (x : StateApplied) (h : is_account xs ≡ true) (e : t ≡ (account_from xs).state)
    (f : m ≡ take 1599 xs) (g : x ≡ applied_state (seen_applied (account_of t m) s c)) (k : l ≡ (seen_applied (account_of t m) s c).account.log) where
  seen_made : x ≡ applied_state (seen_applied (account_from xs) s c)
  seen_made = g ∙ ap (λ (a : Account). applied_state (seen_applied a s c)) (account_again xs t m e f)

  seen_log : l ≡ (seen_applied (account_from xs) s c).account.log
  seen_log = k ∙ ap (λ (a : Account). (seen_applied a s c).account.log) (account_again xs t m e f)

  pub seen_settles : (length (l ++ drop 1599 xs) ≡ 1649) × Settles x
  seen_settles =
      let y = seen_applied (account_from xs) s c in
      let d = seen_handed (account_from xs) s c in
      (joined_length l xs (new_length xs y l h d seen_log) (account_length xs h), settles_of x (account_from xs) y d seen_made)

  pub seen_done : ◌≡◌ {A = BoxAnswered} (record { answer = x.answer; change = seen_change x s c })
      (record { answer = found_answer xs s c; change = found_change xs s c })
      × (settled x (l ++ drop 1599 xs) ≡ found_numbers xs s c)
  seen_done = found_done xs l s c x h seen_made seen_log

-- how many numbers a call's answer puts
abbrev size_for : BoxCall → ℕ
size_for (Register p) = 0
size_for (Use i k n) = 5
size_for (TopUp n) = 0
size_for NextDay = 0
size_for (Afford i k) = 1

size_by : (v : Result ⊤ Refusal) (x : Outcome) (n : ℕ) → answer_size (Ok x) ≤ n → answer_size (answer_by v x) ≤ n
size_by (Ok tt) x n h = h
size_by (Err m) x n h = omega arith

size_within : (x : Result Outcome Refusal) (r : ℕ) → answer_size (answer_within x r) ≡ answer_size x
size_within (Ok Done) r = refl
size_within (Ok (Charged c)) r = refl
size_within (Ok (UpTo n)) r = refl
size_within (Err n) r = refl

within_size : (a : Account) (d : Card) (c : BoxCall)
    → answer_size (within_card a.state (applied_state (applied a (plain c))) d c).answer ≤ size_for c
unfolding plain applied accepted_answer
within_size a d (Register p) = size_by (verdict a (plain-call.Register p)) Done 0 (omega arith)
within_size a d (Use i k n) = few_numbers (within_card a.state (applied_state (applied a (plain-call.Use k n))) d (Use i k n)).answer
within_size a d (TopUp n) = size_by (verdict a (plain-call.TopUp n)) Done 0 (omega arith)
within_size a d NextDay = size_by (verdict a plain-call.NextDay) Done 0 (omega arith)
within_size a d (Afford i k) =
    rw (size_within (applied a (plain-call.Afford k)).answer (room_of d k))
    (size_by (verdict a (plain-call.Afford k)) (accepted_answer a (plain-call.Afford k)) 1 (omega arith))

seen_size : (a : Account) (s : Survey) (c : BoxCall) → answer_size (seen_applied a s c).answer ≤ size_for c
seen_size a s c = go (cards_fit a.state s) (card_missing s c) refl refl
  where
    go : (f m : Bool) → cards_fit a.state s ≡ f → card_missing s c ≡ m → answer_size (seen_applied a s c).answer ≤ size_for c
    go false m e₁ e₂ = subst (λ (x : Applied). answer_size x.answer ≤ size_for c) (seen_0 a s c e₁) (omega arith)
    go true true e₁ e₂ = subst (λ (x : Applied). answer_size x.answer ≤ size_for c) (seen_19 a s c e₁ e₂) (omega arith)
    go true false e₁ e₂ =
        subst (λ (x : Applied). answer_size x.answer ≤ size_for c) (seen_plain a s c e₁ e₂) (within_size a (card_read s) c)

found_size : (xs : List ℕ) (s : Survey) (c : BoxCall) → answer_size (found_answer xs s c) ≤ size_for c
unfolding found_answer
found_size xs s c = go (is_account xs)
  where
    go : (b : Bool) → answer_size (cond b (seen_applied (account_from xs) s c).answer (Err Unsound)) ≤ size_for c
    go true = seen_size (account_from xs) s c
    go false = omega arith

size_fits : (w i k n : ℕ) (ys : List ℕ) → is_box_call w k ys ≡ true → size_for (box_call w i k n) ≤ length ys
unfolding is_box_call box_call
size_fits w i k n ys = go (eqb w 0) (eqb w 1) (eqb w 2) (eqb w 3) (eqb w 4)
  where
    go : (t u v x y : Bool)
        → cond t (is_place k) (cond u (kind_with_room k 5 ys) (cond v true (cond x true (y && kind_with_room k 1 ys)))) ≡ true
        → size_for (cond t (Register (place_named k)) (cond u (Use i (kind_from k) n)
        (cond v (TopUp n) (cond x NextDay (Afford i (kind_from k)))))) ≤ length ys
    go true u v x y h = omega arith
    go false true v x y h = room_is k 5 ys h
    go false false true x y h = omega arith
    go false false false true y h = omega arith
    go false false false false y h = room_is k 1 ys (and_right y (kind_with_room k 1 ys) h)

-- room for what a call puts
pub found_room : (xs : List ℕ) (s : Survey) (w i k n : ℕ) (ys : List ℕ) → is_box_call w k ys ≡ true
    → answer_size (found_answer xs s (box_call w i k n)) ≤ length ys
found_room xs s w i k n ys h = omega (arith, found_size xs s (box_call w i k n), size_fits w i k n ys h)

module _ (xs : List ℕ) (cs : List Card) (c : BoxCall) where
  abbrev seen : Survey
  seen = survey_of (start (card_place c)) cs

  answer_is : found_answer xs seen c ≡ box_call_answer xs cs c
  unfolding found_answer box_call_answer
  answer_is = ap (λ (x : Applied). cond (is_account xs) x.answer (Err Unsound)) (called_is (account_from xs) cs c)

  numbers_are : found_numbers xs seen c ≡ box_call_numbers xs cs c
  unfolding found_numbers box_call_numbers
  numbers_are = ap (λ (x : Applied). cond (is_account xs) (account_numbers x.account) xs) (called_is (account_from xs) cs c)

  kept : changed (no_change (card_place c) seen) cs ≡ cs
  unfolding changed
  kept = put_back cs (card_place c)

  cards_found : changed (found_change xs seen c) cs ≡ box_call_cards xs cs c
  unfolding found_change box_call_cards
  cards_found = go (is_account xs)
    where
      go : (b : Bool) → changed (cond b (seen_change (applied_state (seen_applied (account_from xs) seen c)) seen c)
          (no_change (card_place c) seen)) cs ≡ cond b (box_step (box_of (account_from xs) cs) c).cards cs
      go true = cards_are (account_from xs) cs c
      go false = kept

  -- what a call returns, the numbers, the cards and the caller's list after it
  pub called_code : (t : Bool) → (found_returned xs seen c t).code ≡ box_code xs cs c t
  unfolding found_returned box_code
  called_code true = ap answer_code answer_is
  called_code false = refl

  pub called_numbers : (t : Bool) → cond t (found_numbers xs seen c) xs ≡ box_numbers xs cs c t
  unfolding box_numbers
  called_numbers t = ap (λ (zs : List ℕ). cond t zs xs) numbers_are

  pub called_cards : (t : Bool) → changed (found_returned xs seen c t).change cs ≡ box_cards xs cs c t
  unfolding found_returned box_cards
  called_cards true = cards_found
  called_cards false = kept

  pub called_laid : (t : Bool) (ys : List ℕ) → cond t (answer_laid (found_answer xs seen c) ys) ys ≡ box_laid xs cs c t ys
  unfolding box_laid
  called_laid t ys = ap (λ (x : Result Outcome Refusal). cond t (answer_laid x ys) ys) answer_is

-- opening under a granted plan
module _ (xs : List ℕ) (s : Survey) (ts : List ℕ) where
  abbrev terms : Terms
  terms = terms_from ts

  found_by : length xs ≡ 1649 → found_verdict xs s ts ≡ then (verdict_of (terms_reasons terms)) (verdict_of (found_reasons s))
  unfolding found_verdict
  found_by e = rw (eq-eqb _ _ e) (verdict-append (terms_reasons terms) (found_reasons s))

  seen_by : (p : Plan) → is_accepted (plan_verdict p) ≡ true → seen_verdict p s ≡ verdict_of (found_reasons s)
  unfolding seen_verdict plan_verdict
  seen_by p h = verdict-append (plan_reasons p) (found_reasons s) ∙ go (verdict_of (plan_reasons p)) h
    where
      go : (v : Result ⊤ Refusal) → is_accepted v ≡ true → then v (verdict_of (found_reasons s)) ≡ verdict_of (found_reasons s)
      go (Ok tt) e = refl
      go (Err n) e = absurd (false≢true e)

  -- the cases of opening
  pub open_bad : (length ts ≡ 7 → ⊥)
      → ◌≡◌ {A = BoxReturned} (record { code = 1001; change = no_change 0 s }) (found_opened xs s ts)
      × (xs ≡ cond (found_opens xs s ts) (account_numbers (opened (plan_with terms))) xs)
  unfolding found_opened found_opens
  open_bad h = (rw (ne_eqb _ _ h) refl, rw (ne_eqb _ _ h) refl)

  pub open_0 : length ts ≡ 7 → (length xs ≡ 1649 → ⊥)
      → ◌≡◌ {A = BoxReturned} (record { code = 0; change = no_change 0 s }) (found_opened xs s ts)
      × (xs ≡ cond (found_opens xs s ts) (account_numbers (opened (plan_with terms))) xs)
  unfolding found_opened found_opens found_verdict
  open_0 e h = (rw (eq-eqb _ _ e, ne_eqb _ _ h) refl, rw (eq-eqb _ _ e, ne_eqb _ _ h) refl)

  pub open_declined : (n : Refusal) → length ts ≡ 7 → length xs ≡ 1649 → plan_of terms ≡ Err n
      → ◌≡◌ {A = BoxReturned} (record { code = refusal_number n; change = no_change 0 s }) (found_opened xs s ts)
      × (xs ≡ cond (found_opens xs s ts) (account_numbers (opened (plan_with terms))) xs)
  unfolding found_opened found_opens
  open_declined n e f g =
      let v : found_verdict xs s ts ≡ Err n
      = found_by f ∙ ap (λ (w : Result ⊤ Refusal). then w (verdict_of (found_reasons s))) (declined_is terms n g) in
      (rw (eq-eqb _ _ e, v) refl, rw (eq-eqb _ _ e, v) refl)

  pub open_granted_is : (p : Plan) (zs : List ℕ) → length ts ≡ 7 → length xs ≡ 1649 → plan_of terms ≡ Ok p
      → zs ≡ cond (is_accepted (seen_verdict p s)) (account_numbers (opened p)) xs
      → ◌≡◌ {A = BoxReturned} (record { code = verdict_code (seen_verdict p s); change = opening_change (seen_verdict p s) s }) (found_opened xs s ts)
      × (zs ≡ cond (found_opens xs s ts) (account_numbers (opened (plan_with terms))) xs)
  unfolding found_opened found_opens
  open_granted_is p zs e f g z =
      let k = granted_is terms p g in
      let v : seen_verdict p s ≡ found_verdict xs s ts
      = seen_by p (granted_opens terms p g) ∙ sym (found_by f ∙ ap (λ (w : Result ⊤ Refusal). then w (verdict_of (found_reasons s))) k.0) in (
        rw (eq-eqb _ _ e) (ap (λ (w : Result ⊤ Refusal). record { code = verdict_code w; change = opening_change w s }) v ∙ same_change (found_verdict xs s ts)),
        rw (eq-eqb _ _ e) (z ∙ (λ j. cond (is_accepted (v j)) (account_numbers (opened (sym k.1 j))) xs)),
      )
    where
      same_change : (w : Result ⊤ Refusal) → ◌≡◌ {A = BoxReturned} (record { code = verdict_code w; change = opening_change w s })
          (record { code = verdict_code w; change = cond (is_accepted w) (opening_change (Ok tt) s) (no_change 0 s) })
      same_change (Ok tt) = refl
      same_change (Err n) = refl

-- two lists of reasons accept where each does
accept_both : (v w : Result ⊤ Refusal) → is_accepted v ≡ true → is_accepted w ≡ true → is_accepted (then v w) ≡ true
accept_both (Ok tt) w e f = f
accept_both (Err n) w e f = e

-- opening, of the cards themselves
module _ (xs : List ℕ) (cs : List Card) (ts : List ℕ) where
  abbrev first : Survey
  first = survey_of (start 0) cs

  judged : found_verdict xs first ts ≡ box_open_verdict xs cs ts
  unfolding found_verdict box_open_verdict
  judged = ap (λ (rs : List Reason). cond (eqb (length xs) 1649) (verdict_of (terms_reasons (terms_from ts) ++ rs)) (Err Unsound)) (reasons_are cs)

  opens_is : found_opens xs first ts ≡ box_opens xs cs ts
  unfolding found_opens box_opens
  opens_is = ap (λ (v : Result ⊤ Refusal). eqb (length ts) 7 && is_accepted v) judged

  pub opened_code : (found_opened xs first ts).code ≡ box_open_code xs cs ts
  unfolding found_opened box_open_code
  opened_code = ap (λ (v : Result ⊤ Refusal). cond (eqb (length ts) 7) (verdict_code v) bad_argument) judged

  -- an accepted opening is that of the plan that the numbers stand for
  open_too : box_opens xs cs ts ≡ true → is_accepted (open_verdict (plan_with (terms_from ts)) cs) ≡ true
  unfolding box_opens box_open_verdict open_verdict open_reasons plan_verdict
  open_too h =
      let v : is_accepted (verdict_of (terms_reasons (terms_from ts) ++ card_reasons cs)) ≡ true
      = inner (eqb (length xs) 1649) (and_right (eqb (length ts) 7) _ h) in
      let k = then_both (verdict_of (terms_reasons (terms_from ts))) (verdict_of (card_reasons cs))
      (ap is_accepted (sym (verdict-append (terms_reasons (terms_from ts)) (card_reasons cs))) ∙ v) in
      let p : is_accepted (plan_verdict (plan_with (terms_from ts))) ≡ true
      = ap is_accepted (sym (known_form (terms_from ts) (form_known (terms_from ts) k.0))) ∙ k.0 in
      ap is_accepted (verdict-append (plan_reasons (plan_with (terms_from ts))) (card_reasons cs))
      ∙ accept_both (verdict_of (plan_reasons (plan_with (terms_from ts)))) (verdict_of (card_reasons cs)) p k.1
    where
      inner : (b : Bool) → is_accepted (cond b (verdict_of (terms_reasons (terms_from ts) ++ card_reasons cs)) (Err Unsound)) ≡ true
          → is_accepted (verdict_of (terms_reasons (terms_from ts) ++ card_reasons cs)) ≡ true
      inner true e = e
      inner false e = absurd (false≢true e)

  pub opened_numbers : cond (found_opens xs first ts) (account_numbers (opened (plan_with (terms_from ts)))) xs ≡ box_open_numbers xs cs ts
  unfolding box_open_numbers open_box
  opened_numbers = ap (λ (b : Bool). cond b (account_numbers (opened (plan_with (terms_from ts)))) xs) opens_is ∙ go (box_opens xs cs ts) refl
    where
      go : (b : Bool) → box_opens xs cs ts ≡ b → cond b (account_numbers (opened (plan_with (terms_from ts)))) xs
          ≡ cond b (account_numbers (open_box (plan_with (terms_from ts)) cs).box.account) xs
      go true e = rw (open_too e) refl
      go false e = refl

  pub opened_cards : changed (found_opened xs first ts).change cs ≡ box_open_cards xs cs ts
  unfolding found_opened box_open_cards open_box changed
  opened_cards = ap (λ (b : Bool). changed (cond b (opening_change (Ok tt) first) (no_change 0 first)) cs) opens_is ∙ go (box_opens xs cs ts) refl
    where
      go : (b : Bool) → box_opens xs cs ts ≡ b → changed (cond b (opening_change (Ok tt) first) (no_change 0 first)) cs
          ≡ cond b (open_box (plan_with (terms_from ts)) cs).box.cards cs
      go true e = rw (open_too e) (ap (map fresh) (put_back cs 0))
      go false e = put_back cs 0

-- the library's calls on a box are the box's
pub box_calls_follow : BoxCallsFollowTheBox
unfolding box_call_answer box_call_numbers box_call_cards
box_calls_follow a cs c h =
    let b = account_back a h in
    record {
      answer = rw b.known (ap (λ (x : Account). (box_applied (box_of x cs) c).answer) b.back);
      numbers = rw b.known (ap (λ (x : Account). account_numbers (box_applied (box_of x cs) c).account) b.back
          ∙ (unfold box_applied in refl));
      cards = rw b.known (ap (λ (x : Account). (box_step (box_of x cs) c).cards) b.back);
    }

-- a refused one leaves the box
box_same : (b : Box) (c : BoxCall) → is_taken (box_applied b c).answer ≡ false → box_step b c ≡ b
unfolding box_step
box_same b c h = rw (sym (taken_is b.account b.cards c) ∙ h) refl

box_handed : (b : Box) (c : BoxCall) → is_taken (box_applied b c).answer ≡ false
    → box_of (box_applied b c).account b.cards ≡ b
unfolding box_applied
box_handed b c h = ap (λ (x : Box). box_of x.account b.cards) (box_same b c h)

pub refused_changes_no_card : RefusedChangesNoCard
unfolding box_call_answer box_call_numbers box_call_cards
refused_changes_no_card = record {
  numbers = λ xs cs c h. numbers xs cs c (is_account xs) refl h;
  cards = λ xs cs c h. cards xs cs c (is_account xs) h;
}
  where
    numbers : (xs : List ℕ) (cs : List Card) (c : BoxCall) (t : Bool) → is_account xs ≡ t
        → is_taken (cond t (box_applied (box_of (account_from xs) cs) c).answer (Err Unsound)) ≡ false
        → cond t (account_numbers (box_applied (box_of (account_from xs) cs) c).account) xs ≡ xs
    numbers xs cs c false e k = refl
    numbers xs cs c true e k =
        ap (λ (x : Box). account_numbers x.account) (box_handed (box_of (account_from xs) cs) c k) ∙ (numbers_back xs e).back

    cards : (xs : List ℕ) (cs : List Card) (c : BoxCall) (t : Bool)
        → is_taken (cond t (box_applied (box_of (account_from xs) cs) c).answer (Err Unsound)) ≡ false
        → cond t (box_step (box_of (account_from xs) cs) c).cards cs ≡ cs
    cards xs cs c false k = refl
    cards xs cs c true k = ap (λ (x : Box). x.cards) (box_same (box_of (account_from xs) cs) c k)
