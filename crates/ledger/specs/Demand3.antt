-- Demand 3 as one claim about whole lists of calls (list-1, list-4, list-9, book-12, half-8, half-9). Why it is put as
-- it is, and what would be false: docs/DESIGN.md. No choice matters here beside those of the rules that it rests on.
-- Assumes nothing.
use Rattle.std.specs.Prelude.{◌+◌, ◌-◌, ◌≡◌, true, List, length, get_or, Ok}
use Rattle.tariff.specs.declared.Plan.{Plan}
use Rattle.account.specs.declared.Account.{Account}
use Rattle.account.specs.declared.Call.{Call}
use Rattle.account.specs.Whole.{sound}
use Rattle.account.specs.Answers.{open_answer}
use Rattle.machine.specs.Machine as machine
use Rattle.ledger.specs.Lists.{run, account_calls}
use Rattle.ledger.specs.Journal.{Entry, Opening, new_opening, opening_of, new_journal, answered, write, paid_in}
use Rattle.ledger.specs.Journal.{journal_home, journal_surcharges}

-- list-4: Open accepts the plan and hands out the account
abbrev pub OpensAs : Plan → Account → Type 0
OpensAs p a = open_answer p ≡ record { answer = Ok tt; account = a }

-- book-1, book-3: the book's items after a list of calls
unfoldable pub entries_of : Opening → Account → List Call → List Entry
entries_of o a cs = (write (new_journal o) (answered a cs)).entries

-- book-12, sound-4, scope-1, half-9: the account's money is the book's, and it balances
pub record Shown (o : Opening) (a : Account) (es : List Entry) : Type 0 where
  pub paid_shown : a.state.money.paid ≡ paid_in o es
  pub home_shown : a.state.money.homecharges ≡ journal_home o es
  pub surcharges_shown : a.state.money.surcharges ≡ journal_surcharges o es
  pub credit_shown : a.state.money.credit ≡ paid_in o es - (journal_home o es + journal_surcharges o es)
  pub balance : a.state.money.paid
      ≡ a.state.money.credit + a.state.money.homecharges + a.state.money.surcharges

-- list-9, half-8: the match of two lists on two accounts
abbrev pub Matches : Account → Account → List Call → List Call → Type 0
Matches a b xs ys = machine.Matches account_calls a b xs ys

-- list-1: the match, the money, and that the account stays sound, of two accounts that begin alike
pub record Claim (o : Opening) (a b : Account) (xs ys : List Call) : Type 0 where
  pub matched : Matches a b xs ys
  pub shown : Shown o (run a xs) (entries_of o a xs)
  -- no call is refused with 0, so the parts above are about the calls as they are meant
  pub stays_sound : sound (run a xs) ≡ true

-- list-1, list-4, list-9, book-12, promise-2: for every plan, any two accounts opened alike under it, and any two lists
abbrev pub Demand3 : Type 0
Demand3 = (p : Plan) (a b : Account) → OpensAs p a → OpensAs p b → (xs ys : List Call) → Claim (new_opening p) a b xs ys

-- list-1, book-12: the same from any sound account, with whose fields the book begins
abbrev pub Demand3FromSound : Type 0
Demand3FromSound = (a : Account) → sound a ≡ true → (xs ys : List Call) → Claim (opening_of a) a a xs ys

-- refusal-0: a sound account stays sound through every list of calls, so none is refused with 0
abbrev pub SoundStaysSound : Type 0
SoundStaysSound = (a : Account) → sound a ≡ true → (cs : List Call) → sound (run a cs) ≡ true

-- list-7: one stretch more than cuts, so what a match compares is equally long where cuts agree
abbrev pub OneMoreThanCuts : Type 0
OneMoreThanCuts = (a : Account) (cs : List Call) → machine.OneMore account_calls a cs

-- list-9: the last account compared is the one that the list leads to
abbrev pub EndIsCompared : Type 0
EndIsCompared = (a b : Account) (cs : List Call)
    → get_or (machine.snapshots account_calls a cs) (length (machine.cuts account_calls a cs)) b ≡ run a cs
