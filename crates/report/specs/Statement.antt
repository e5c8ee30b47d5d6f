-- What the program `statement` prints of a trip file, as figures (statement-1, statement-2). Choices
-- (docs/DECISIONS.md, "Statement"): `refused`; L none. Assumes nothing.
use Rattle.std.specs.Prelude.{ℕ, List, Result, Ok, Err}
use Rattle.tariff.specs.declared.Plan.{Plan}
use Rattle.tariff.specs.declared.Refusal.{Refusal}
use Rattle.state.specs.declared.State.{State}
use Rattle.account.specs.Answers.{open_answer}
use Rattle.replay.specs.declared.Replayed.{Replayed}
use Rattle.replay.specs.Replay.{replay_of}
use Rattle.tripfile.specs.declared.Trip.{Trip}
use Rattle.tripfile.specs.Reading.{read_of, calls_of}
use Rattle.report.specs.declared.Figures.{Figures}

-- statement-1: the nine figures
unfoldable pub figures_with : State → ℕ → Figures
figures_with s n = record {
  day = s.day;
  paid = s.money.paid;
  credit = s.money.credit;
  home = s.money.homecharges;
  extra = s.money.surcharges;
  limit = s.quota.allowance;
  roamed = s.quota.roamed;
  past = s.meters.surcharged.kb;
  refused = n;
}

-- statement-1: those of an account after its calls
abbrev pub figures_of : Replayed → Figures
figures_of t = figures_with t.account.state t.refused

-- statement-1, list-2: the calls of a file on an account opened under a plan
abbrev pub trip_run : List ℕ → Plan → Replayed
trip_run f p = replay_of (open_answer p).account (calls_of f)

-- statement-1, statement-2, form-8: the figures, or the number of a bad file
unfoldable pub report_on : List ℕ → Result Trip Refusal → Result Figures Refusal
report_on f (Ok t) = Ok (figures_of (trip_run f t.plan))
report_on f (Err r) = Err r

-- statement-1, statement-2: of a file's bytes
unfoldable pub report_of : List ℕ → Result Figures Refusal
report_of f = report_on f (read_of f)
