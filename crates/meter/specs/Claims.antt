-- What the library's calls have to do with the account's and the box's (library-5, library-6, library-12). No choice
-- matters here beside those of specs/Calls and specs/Boxes. Assumes nothing.
use Rattle.std.specs.Prelude.{ℕ, ◌≡◌, false, List, length}
use Rattle.state.specs.Reasons.{is_taken}
use Rattle.account.specs.declared.Account.{Account}
use Rattle.account.specs.declared.Call.{Call}
use Rattle.account.specs.Answers.{applied}
use Rattle.numbers.specs.Numbers.{account_numbers}
use Rattle.cards.specs.declared.Card.{Card}
use Rattle.family.specs.declared.BoxCall.{BoxCall}
use Rattle.family.specs.Box.{box_of, box_step}
use Rattle.family.specs.Answers.{box_applied}
use Rattle.meter.specs.Calls.{call_answer, call_numbers}
use Rattle.meter.specs.Boxes.{box_call_answer, box_call_numbers, box_call_cards}

-- library-6: a call on an account's numbers answers as the call on the account, and leaves the numbers of the account
-- handed back
pub record CallFollows (a : Account) (c : Call) : Type 0 where
  pub answer : call_answer (account_numbers a) c ≡ (applied a c).answer
  pub numbers : call_numbers (account_numbers a) c ≡ account_numbers (applied a c).account

-- library-6: for every account and call
abbrev pub CallsFollowTheAccount : Type 0
CallsFollowTheAccount = (a : Account) (c : Call) → length a.log ≡ 1599 → CallFollows a c

-- library-5, order-2: a refused call leaves every number as it was, whatever the numbers are
abbrev pub RefusedChangesNoNumber : Type 0
RefusedChangesNoNumber = (xs : List ℕ) (c : Call) → is_taken (call_answer xs c) ≡ false → call_numbers xs c ≡ xs

-- library-12: the same of a box: answer, account and cards
pub record BoxCallFollows (a : Account) (cs : List Card) (c : BoxCall) : Type 0 where
  pub answer : box_call_answer (account_numbers a) cs c ≡ (box_applied (box_of a cs) c).answer
  pub numbers : box_call_numbers (account_numbers a) cs c ≡ account_numbers (box_step (box_of a cs) c).account
  pub cards : box_call_cards (account_numbers a) cs c ≡ (box_step (box_of a cs) c).cards

-- library-12: for every account, list of cards and call
abbrev pub BoxCallsFollowTheBox : Type 0
BoxCallsFollowTheBox = (a : Account) (cs : List Card) (c : BoxCall) → length a.log ≡ 1599 → BoxCallFollows a cs c

-- library-12, order-2: a refused call leaves every number and every card as it was, whatever they are
pub record RefusedChangesNoCard : Type 0 where
  pub numbers : (xs : List ℕ) (cs : List Card) (c : BoxCall) → is_taken (box_call_answer xs cs c) ≡ false
      → box_call_numbers xs cs c ≡ xs
  pub cards : (xs : List ℕ) (cs : List Card) (c : BoxCall) → is_taken (box_call_answer xs cs c) ≡ false
      → box_call_cards xs cs c ≡ cs
