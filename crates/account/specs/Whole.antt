-- The whole account with its log: when it is sound, and what each accepted call makes of it (account-1 to account-3,
-- sound-1 to sound-11, day-1). Choices (docs/DECISIONS.md, "Soundness" and "Account"): extent; order within a day
-- change. Assumes nothing.
use Rattle.std.specs.Prelude.{ℕ, Bool, [], ◌∷◌, replicate}
use Rattle.tariff.specs.declared.Units.{Units}
use Rattle.tariff.specs.declared.Place.{Place}
use Rattle.tariff.specs.declared.Plan.{Plan}
use Rattle.tariff.specs.Tests.{all}
use Rattle.presence.specs.Day.{joined}
use Rattle.presence.specs.Log.{days_of, logged_with, log_within}
use Rattle.state.specs.Use.{spent}
use Rattle.state.specs.Moves.{opened_state, registered, topped, next_state_of}
use Rattle.state.specs.Sound.{counters_sound, charges_sound}
use Rattle.account.specs.declared.Account.{Account}

-- sound-1, sound-3, sound-7, refusal-0: counters, charges and balance, log
unfoldable pub sound : Account → Bool
sound a = all
    (counters_sound a.state
    ∷ charges_sound a.state
    ∷ log_within a.log a.state.today a.state.logged a.state.meters.lifetime
    ∷ [])

-- account-3: a new account, with an empty log
unfoldable pub opened : Plan → Account
opened p = record { state = opened_state p; log = replicate 1599 0 }

-- register-1: the account registered at the place
unfoldable pub register_at : Account → Place → Account
register_at a p = record { state = registered a.state p; log = a.log }

-- topup-1: the account topped up by n
unfoldable pub top_up_by : Account → ℕ → Account
top_up_by a n = record { state = topped a.state n; log = a.log }

-- use-1: the account after u units, charged as c
unfoldable pub spend : Account → Units → Units → Account
spend a u c = record { state = spent a.state u c; log = a.log }

-- day-1: today joins the log, and the rest follows from the log with it
unfoldable pub day_after : Account → Account
day_after a = record {
  state = next_state_of a.state (joined a.state.today (days_of a.log));
  log = logged_with
      a.state.today a.log;
}
