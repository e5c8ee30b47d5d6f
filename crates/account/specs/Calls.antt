-- What every call on an account declines, and what it makes of the account (order-1 to order-3, refusal-0, list-3).
-- Choice (docs/DECISIONS.md, "Afford"): refusals. Assumes nothing.
use Rattle.std.specs.Prelude.{Bool, not, cond, List, [], ◌∷◌, Result, ⊤}
use Rattle.tariff.specs.Tests.{Reason, because, verdict_of, is_accepted}
use Rattle.tariff.specs.Units.{only}
use Rattle.presence.specs.Day.{is_placed}
use Rattle.state.specs.Use.{charged_units}
use Rattle.state.specs.Reasons.{use_reasons, top_up_reasons, next_day_reasons}
use Rattle.account.specs.declared.Account.{Account}
use Rattle.account.specs.declared.Call.{Call}
use Rattle.account.specs.declared.Call.TheVariants.{Register, Use, TopUp, NextDay, Afford}
use Rattle.account.specs.Whole.{sound, register_at, spend, top_up_by, day_after}
use Rattle.tariff.specs.declared.Refusal.{Refusal}
use Rattle.tariff.specs.declared.Refusal.TheVariants.{Unsound, Unplaced}

-- order-3, refusal-3: the call's own reasons; Register has none, Afford 3
unfoldable pub own_reasons : Account → Call → List Reason
own_reasons a (Register p) = []
own_reasons a (Use k n) = use_reasons a.state k n
own_reasons a (TopUp n) = top_up_reasons a.state n
own_reasons a NextDay = next_day_reasons a.state
own_reasons a (Afford k) = because Unplaced (not (is_placed a.state.place)) ∷ []

-- refusal-0, order-3: 0 in front of the call's own
unfoldable pub reasons : Account → Call → List Reason
reasons a c = because Unsound (not (sound a)) ∷ own_reasons a c

-- order-1: the refusal of the first reason that holds
unfoldable pub verdict : Account → Call → Result ⊤ Refusal
verdict a c = verdict_of (reasons a c)

-- list-3: no reason holds
unfoldable pub accepts : Account → Call → Bool
accepts a c = is_accepted (verdict a c)

-- account-1: what an accepted call makes of the account
unfoldable pub after : Account → Call → Account
after a (Register p) = register_at a p
after a (Use k n) = spend a (only k n) (charged_units a.state.place k n)
after a (TopUp n) = top_up_by a n
after a NextDay = day_after a
after a (Afford k) = a

-- order-2, list-2: the account after a call; a refused one leaves it. Law: so it is with every refused call
-- (`RefusedChangesNothing`)
unfoldable pub step : Account → Call → Account
step a c = cond (accepts a c) (after a c) a
