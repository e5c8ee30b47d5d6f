-- Calls as a trip file codes them, run one after the other (file-8, list-2, statement-1). Choices (docs/DECISIONS.md,
-- "Trip file" and "Statement"): codes and numbers that are no call; `refused`. Assumes nothing.
use Rattle.std.specs.Prelude.{ℕ, zero, suc, ◌+◌, ◌*◌, ◌<◌, ◌≡◌, Bool, true, cond, ◌&&◌, List, [], ◌∷◌, eqb, Option, Some, None, Result, is_err}
use Rattle.words.specs.Words.{word}
use Rattle.tariff.specs.declared.Kind.TheVariants.{Data, Outgoing, Incoming, Sms}
use Rattle.tariff.specs.declared.Place.TheVariants.{Home, Zone, Elsewhere}
use Rattle.tariff.specs.declared.Refusal.{Refusal}
use Rattle.state.specs.declared.Outcome.{Outcome}
use Rattle.account.specs.declared.Account.{Account}
use Rattle.account.specs.declared.Call.{Call}
use Rattle.account.specs.declared.Call.TheVariants.{Register, Use, TopUp, NextDay}
use Rattle.account.specs.Whole.{sound}
use Rattle.account.specs.Calls.{accepts, step}
use Rattle.account.specs.Answers.{account_of}
use Rattle.reader.specs.declared.CodedCall.{CodedCall}
use Rattle.tripfile.specs.Bodies as File
use Rattle.tripfile.specs.Bodies.{calls_in}
use Rattle.ledger.specs.Lists.{run}
use Rattle.replay.specs.declared.Replayed.{Replayed}
use Rattle.replay.specs.declared.Progress.{Progress}

-- statement-1: 1 for a refusal, else 0
abbrev pub count_refused : Result Outcome Refusal → ℕ
count_refused x = cond (is_err x) 1 0

-- file-8: code 1, by its number
unfoldable pub register_code : ℕ → Option Call
register_code n = cond (eqb n 0) (Some (Register Home))
    (cond (eqb n 1) (Some (Register Zone)) (cond (eqb n 2) (Some (Register Elsewhere)) None))

-- file-8: codes 6 and 7
unfoldable pub other_code : ℕ → ℕ → Option Call
other_code c n = cond (eqb c 6) (Some (TopUp n)) (cond (eqb c 7 && eqb n 0) (Some NextDay) None)

-- file-8, form-8: the call of a code and a number, if it is one
unfoldable pub coded : ℕ → ℕ → Option Call
coded c n =
    cond (eqb c 1) (register_code n)
    (cond (eqb c 2) (Some (Use Data n))
    (cond (eqb c 3) (Some (Use Outgoing n))
    (cond (eqb c 4) (Some (Use Incoming n))
    (cond (eqb c 5) (Some (Use Sms n))
    (other_code c n)))))

-- file-8: what the calls of a file stand for
unfoldable pub coded_calls : List File.Call → List (Option Call)
coded_calls [] = []
coded_calls (c ∷ cs) = coded c.code c.number ∷ coded_calls cs

-- file-8: the calls among them
unfoldable pub known : List (Option Call) → List Call
known [] = []
known (Some c ∷ xs) = c ∷ known xs
known (None ∷ xs) = known xs

-- statement-1: how many are refused; what is no call counts as refused, and changes nothing
unfoldable pub refusals : Account → List (Option Call) → ℕ
refusals a [] = 0
refusals a (Some c ∷ xs) = cond (accepts a c) 0 1 + refusals (step a c) xs
refusals a (None ∷ xs) = 1 + refusals a xs

-- list-2, statement-1: the account after the calls of a file, and the number of refused ones
unfoldable pub replay_of : Account → List File.Call → Replayed
replay_of a cs = record { account = run a (known (coded_calls cs)); refused = refusals a (coded_calls cs) }

-- list-2: the same of all calls of a calls section
abbrev pub run_section : Account → List ℕ → Replayed
run_section a s = replay_of a (calls_in s)

-- aid: one more of them
unfoldable pub replay_step : Replayed → Option Call → Replayed
replay_step t (Some c) = record {
  account = step t.account c;
  refused = t.refused + cond (accepts t.account c) 0 1;
}
replay_step t None = record { account = t.account; refused = t.refused + 1 }

-- aid: one call as a reader hands it out; where it hands out none, nothing changes
abbrev pub after_step : Replayed → Option CodedCall → Replayed
after_step t (Some c) = replay_step t (coded c.code c.number)
after_step t None = t

-- aid to the code's loop: the first n calls of a section, one after the other
unfoldable pub run_first : Account → List ℕ → ℕ → Replayed
run_first a s zero = record { account = a; refused = 0 }
run_first a s (suc n) = replay_step (run_first a s n) (coded (word s (2 * n)) (word s (2 * n + 1)))

-- aid to the code's loop, which holds the log apart
abbrev pub replayed_of : Progress → List ℕ → Replayed
replayed_of t l = record { account = account_of t.state l; refused = t.refused }

-- aid: all but the log, and the count; whether the account is known to be sound is told apart
abbrev pub progress_of : Bool → Replayed → Progress
progress_of b t = record { state = t.account.state; refused = t.refused; sound = b }

-- aid: an account that is said to be sound is sound
abbrev pub SaidSound : Bool → Account → Type 0
SaidSound b a = b ≡ true → sound a ≡ true

-- aid: what one more call asks: room for one more refusal, and that what is said of the account is so
pub record Going (t : Progress) (log : List ℕ) : Type 0 where
  pub room : t.refused < 18446744073709551615
  pub known : SaidSound t.sound (account_of t.state log)

-- aid: what a list of calls asks, before the first
pub record Starting (t : Progress) (log : List ℕ) : Type 0 where
  pub none : t.refused ≡ 0
  pub known : SaidSound t.sound (account_of t.state log)
