-- A family box in the caller's memory: its account as numbers, its cards as records (library-11 to library-13,
-- family-1, family-7). Choices (docs/DECISIONS.md, "The library" and "Family box"): arguments of no call; a call that
-- names no card; a refused opening. Assumes nothing.
use Rattle.std.specs.Prelude.{ℕ, Bool, true, cond, ◌&&◌, List, ◌++◌, length, eqb, Result, Ok, Err, ⊤}
use Rattle.tariff.specs.Tests.{verdict_of, is_accepted}
use Rattle.tariff.specs.Plan.{plan_with, terms_reasons}
use Rattle.state.specs.declared.Outcome.{Outcome}
use Rattle.account.specs.Answers.{applied_state}
use Rattle.numbers.specs.Numbers.{terms_from, account_numbers, account_from, is_account}
use Rattle.cards.specs.declared.Card.{Card}
use Rattle.cards.specs.declared.Survey.{Survey}
use Rattle.cards.specs.declared.Change.{Change}
use Rattle.family.specs.declared.BoxCall.{BoxCall}
use Rattle.family.specs.declared.BoxCall.TheVariants.{Register, Use, TopUp, NextDay, Afford}
use Rattle.family.specs.Box.{box_of, box_step}
use Rattle.family.specs.Answers.{box_applied, card_reasons, open_box}
use Rattle.family.specs.Seen.{card_place, seen_applied, seen_change, no_change, found_reasons, opening_change}
use Rattle.meter.specs.declared.boxes.BoxReturned.{BoxReturned}
use Rattle.meter.specs.Answers.{bad_argument, verdict_code, answer_code, answer_laid}
use Rattle.meter.specs.Calls.{kind_from, is_place, place_named, kind_with_room}
use Rattle.tariff.specs.declared.Refusal.{Refusal}
use Rattle.tariff.specs.declared.Refusal.TheVariants.{Unsound}

-- library-11, family-7: the call that is meant: 0 register, 1 use, 2 top-up, 3 next day, 4 Afford
unfoldable pub box_call : ℕ → ℕ → ℕ → ℕ → BoxCall
box_call w i k n = cond (eqb w 0) (Register (place_named k))
    (cond (eqb w 1) (Use i (kind_from k) n)
    (cond (eqb w 2) (TopUp n)
    (cond (eqb w 3) NextDay (Afford i (kind_from k)))))

-- library-11: a known call with a known place or kind, and room for its answer
unfoldable pub is_box_call : ℕ → ℕ → List ℕ → Bool
is_box_call w k ys = cond (eqb w 0) (is_place k)
    (cond (eqb w 1) (kind_with_room k 5 ys)
    (cond (eqb w 2) true
    (cond (eqb w 3) true (eqb w 4 && kind_with_room k 1 ys))))

-- library-12, family-5: a call's answer, 0 where the numbers stand for no account
unfoldable pub box_call_answer : List ℕ → List Card → BoxCall → Result Outcome Refusal
box_call_answer xs cs c = cond (is_account xs) (box_applied (box_of (account_from xs) cs) c).answer (Err Unsound)

-- library-12, family-5: the account's numbers after it
unfoldable pub box_call_numbers : List ℕ → List Card → BoxCall → List ℕ
box_call_numbers xs cs c = cond (is_account xs)
    (account_numbers (box_applied (box_of (account_from xs) cs) c).account) xs

-- library-12, family-6: the cards after it
unfoldable pub box_call_cards : List ℕ → List Card → BoxCall → List Card
box_call_cards xs cs c = cond (is_account xs) (box_step (box_of (account_from xs) cs) c).cards cs

-- library-11, library-12: what a call returns; t tells whether its arguments are of a call
unfoldable pub box_code : List ℕ → List Card → BoxCall → Bool → ℕ
box_code xs cs c t = cond t (answer_code (box_call_answer xs cs c)) bad_argument

-- library-11, library-12: the account's numbers after it
unfoldable pub box_numbers : List ℕ → List Card → BoxCall → Bool → List ℕ
box_numbers xs cs c t = cond t (box_call_numbers xs cs c) xs

-- library-11, library-12: the cards after it
unfoldable pub box_cards : List ℕ → List Card → BoxCall → Bool → List Card
box_cards xs cs c t = cond t (box_call_cards xs cs c) cs

-- library-11, library-12: the caller's list after it
unfoldable pub box_laid : List ℕ → List Card → BoxCall → Bool → List ℕ → List ℕ
box_laid xs cs c t ys = cond t (answer_laid (box_call_answer xs cs c) ys) ys

-- library-13, family-14: opening with a plan's seven numbers, 0 where there are not 1,649 numbers
unfoldable pub box_open_verdict : List ℕ → List Card → List ℕ → Result ⊤ Refusal
box_open_verdict xs cs ts = cond (eqb (length xs) 1649)
    (verdict_of (terms_reasons (terms_from ts) ++ card_reasons cs)) (Err Unsound)

-- library-13: it is accepted
unfoldable pub box_opens : List ℕ → List Card → List ℕ → Bool
box_opens xs cs ts = eqb (length ts) 7 && is_accepted (box_open_verdict xs cs ts)

-- library-11, library-13: what opening returns
unfoldable pub box_open_code : List ℕ → List Card → List ℕ → ℕ
box_open_code xs cs ts = cond (eqb (length ts) 7) (verdict_code (box_open_verdict xs cs ts)) bad_argument

-- library-13: the new account's numbers, or those that were there
unfoldable pub box_open_numbers : List ℕ → List Card → List ℕ → List ℕ
box_open_numbers xs cs ts = cond (box_opens xs cs ts)
    (account_numbers (open_box (plan_with (terms_from ts)) cs).box.account) xs

-- library-13, family-3: the new cards, or those that were there
unfoldable pub box_open_cards : List ℕ → List Card → List ℕ → List Card
box_open_cards xs cs ts = cond (box_opens xs cs ts) (open_box (plan_with (terms_from ts)) cs).box.cards cs

-- aid: a call's answer by what a pass over the cards found
unfoldable pub found_answer : List ℕ → Survey → BoxCall → Result Outcome Refusal
found_answer xs s c = cond (is_account xs) (seen_applied (account_from xs) s c).answer (Err Unsound)

-- aid: the numbers after it
unfoldable pub found_numbers : List ℕ → Survey → BoxCall → List ℕ
found_numbers xs s c = cond (is_account xs) (account_numbers (seen_applied (account_from xs) s c).account) xs

-- aid: what it makes of the cards
unfoldable pub found_change : List ℕ → Survey → BoxCall → Change
found_change xs s c = cond (is_account xs)
    (seen_change (applied_state (seen_applied (account_from xs) s c)) s c) (no_change (card_place c) s)

-- aid: what a call returns, and what it makes of the cards; t tells whether its arguments are of a call
unfoldable pub found_returned : List ℕ → Survey → BoxCall → Bool → BoxReturned
found_returned xs s c t = cond t
    (record { code = answer_code (found_answer xs s c); change = found_change xs s c })
    (record { code = bad_argument; change = no_change (card_place c) s })

-- aid: opening by what a pass over the cards found
unfoldable pub found_verdict : List ℕ → Survey → List ℕ → Result ⊤ Refusal
found_verdict xs s ts = cond (eqb (length xs) 1649)
    (verdict_of (terms_reasons (terms_from ts) ++ found_reasons s)) (Err Unsound)

-- aid: it is accepted
unfoldable pub found_opens : List ℕ → Survey → List ℕ → Bool
found_opens xs s ts = eqb (length ts) 7 && is_accepted (found_verdict xs s ts)

-- aid: what opening returns, and what it makes of the cards
unfoldable pub found_opened : List ℕ → Survey → List ℕ → BoxReturned
found_opened xs s ts = record {
  code = cond (eqb (length ts) 7) (verdict_code (found_verdict xs s ts)) bad_argument;
  change = cond (found_opens xs s ts) (opening_change (Ok tt) s) (no_change 0 s);
}
