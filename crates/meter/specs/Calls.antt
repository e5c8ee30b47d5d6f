-- Calls on an account in the caller's memory, as numbers (library-4 to library-7). Choices (docs/DECISIONS.md, "The
-- library"): another count than 1,649 numbers; arguments of no call; a refused Open; a refused call. Assumes nothing.
use Rattle.std.specs.Prelude.{ℕ, ◌≡◌, Bool, true, cond, ◌&&◌, List, ◌++◌, length, leb, eqb, Result, Ok, Err, ⊤}
use Rattle.tariff.specs.declared.Kind.{Kind}
use Rattle.tariff.specs.declared.Kind.TheVariants.{Data, Outgoing, Incoming, Sms}
use Rattle.tariff.specs.declared.Place.{Place}
use Rattle.tariff.specs.declared.Place.TheVariants.{Home, Zone, Elsewhere}
use Rattle.tariff.specs.Tests.{verdict_of, is_accepted}
use Rattle.tariff.specs.Plan.{plan_with, terms_reasons}
use Rattle.state.specs.declared.Outcome.{Outcome}
use Rattle.state.specs.declared.Outcome.TheVariants.{Done, Charged, UpTo}
use Rattle.state.specs.declared.StateApplied.{StateApplied}
use Rattle.state.specs.Reasons.{is_taken}
use Rattle.account.specs.declared.Call.{Call}
use Rattle.account.specs.Whole.{sound}
use Rattle.account.specs.Answers.{open_answer, applied}
use Rattle.numbers.specs.Numbers.{terms_from, state_numbers, log_part, account_numbers, account_from, is_account}
use Rattle.numbers.specs.Numbers.{Writable}
use Rattle.meter.specs.Answers.{bad_argument, verdict_code}
use Rattle.tariff.specs.declared.Refusal.{Refusal}
use Rattle.tariff.specs.declared.Refusal.TheVariants.{Unsound}

-- library-5, library-6: a call's answer, 0 where the numbers stand for no account
unfoldable pub call_answer : List ℕ → Call → Result Outcome Refusal
call_answer xs c = cond (is_account xs) (applied (account_from xs) c).answer (Err Unsound)

-- library-5, library-6: the numbers after it. Laws: those of the call on the account (`CallsFollowTheAccount`); the
-- same on a refusal (`RefusedChangesNoNumber`)
unfoldable pub call_numbers : List ℕ → Call → List ℕ
call_numbers xs c = cond (is_account xs) (account_numbers (applied (account_from xs) c).account) xs

-- library-5: the numbers of a sound account
unfoldable pub sound_numbers : List ℕ → Bool
sound_numbers xs = is_account xs && sound (account_from xs)

-- library-4: 0 data, 1 outgoing, 2 incoming, 3 SMS
abbrev pub is_kind : ℕ → Bool
is_kind n = leb n 3

-- library-4: the kind that it stands for
unfoldable pub kind_from : ℕ → Kind
kind_from n = cond (eqb n 0) Data (cond (eqb n 1) Outgoing (cond (eqb n 2) Incoming Sms))

-- library-4: as in a trip file, 0 home, 1 zone, 2 elsewhere
abbrev pub is_place : ℕ → Bool
is_place n = leb n 2

-- library-4: the place that it stands for
unfoldable pub place_named : ℕ → Place
place_named n = cond (eqb n 0) Home (cond (eqb n 1) Zone Elsewhere)

-- library-4: a known kind, and room for the answer
unfoldable pub kind_with_room : ℕ → ℕ → List ℕ → Bool
kind_with_room kind size ys = is_kind kind && leb size (length ys)

-- library-7, library-5: Open on a plan's seven numbers, 0 where there are not 1,649 numbers
unfoldable pub open_verdict : List ℕ → List ℕ → Result ⊤ Refusal
open_verdict xs ts = cond (eqb (length xs) 1649) (verdict_of (terms_reasons (terms_from ts))) (Err Unsound)

-- library-4, library-7: what Open returns
unfoldable pub open_code : List ℕ → List ℕ → ℕ
open_code xs ts = cond (eqb (length ts) 7) (verdict_code (open_verdict xs ts)) bad_argument

-- library-7: the new account's numbers, or those that were there
unfoldable pub open_numbers : List ℕ → List ℕ → List ℕ
open_numbers xs ts = cond (eqb (length ts) 7 && is_accepted (open_verdict xs ts))
    (account_numbers (open_answer (plan_with (terms_from ts))).account) xs

-- aid: how many numbers an answer puts
abbrev pub answer_size : Result Outcome Refusal → ℕ
answer_size (Ok Done) = 0
answer_size (Ok (Charged c)) = 5
answer_size (Ok (UpTo n)) = 1
answer_size (Err r) = 0

-- aid: what an accepted call makes of all but the log, over the numbers with the log as the call left it
unfoldable pub settled : StateApplied → List ℕ → List ℕ
settled x zs = cond (is_taken x.answer) (log_part zs ++ state_numbers x.state) zs

-- aid: an accepted call leaves a state whose numbers fit
abbrev pub Settles : StateApplied → Type 0
Settles x = is_taken x.answer ≡ true → Writable x.state
