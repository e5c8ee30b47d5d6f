-- The reasons of each call but 0, in order, and a use by them (refusal-3 to refusal-9, order-3, half-5). Choices
-- (docs/DECISIONS.md, "Account"): refusal 5; refusal 5 of charged seconds; refusal 6. Assumes nothing.
use Rattle.std.specs.Prelude.{ℕ, ◌+◌, Bool, not, cond, ◌||◌, List, [], ◌∷◌, leb, ltb, Result, Ok, Err, ⊤, is_ok}
use Rattle.tariff.specs.declared.Kind.{Kind}
use Rattle.tariff.specs.Tests.{between, Reason, because, verdict_of, is_accepted}
use Rattle.tariff.specs.Units.{only, of_kind}
use Rattle.presence.specs.Day.{is_placed}
use Rattle.state.specs.declared.State.{State}
use Rattle.state.specs.declared.Outcome.{Outcome}
use Rattle.state.specs.declared.Outcome.TheVariants.{Charged}
use Rattle.state.specs.declared.StateApplied.{StateApplied}
use Rattle.state.specs.Use.{charged_units, cost, spent, charge_of}
use Rattle.tariff.specs.declared.Refusal.{Refusal}
use Rattle.tariff.specs.declared.Refusal.TheVariants.{Unplaced, UnitCount, MeterFull, OverCredit, TopUpSize, PaidLimit, LastDay}

-- refusal-5, half-5: lifetime units of the kind, or charged seconds, would be over their limit
unfoldable pub overfills : State → Kind → ℕ → Bool
overfills a k n = ltb 1000000000000 (of_kind k a.meters.lifetime + n)
    || ltb 1000000000000 (a.meters.chargedseconds + (charged_units a.place k n).outgoing)

-- order-3, refusal-3, refusal-4, refusal-5, refusal-6: of Use
unfoldable pub use_reasons : State → Kind → ℕ → List Reason
use_reasons a k n =
    because Unplaced (not (is_placed a.place))
    ∷ because UnitCount (not (between 1 n 1000000000))
    ∷ because MeterFull (overfills a k n)
    ∷ because OverCredit (ltb a.money.credit (cost a (charged_units a.place k n)))
    ∷ []

-- order-3, refusal-7, refusal-8: of Top-up
unfoldable pub top_up_reasons : State → ℕ → List Reason
top_up_reasons a n = because TopUpSize (not (between 1 n 10000000)) ∷ because PaidLimit (ltb 1000000000 (a.money.paid + n)) ∷ []

-- order-3, refusal-9, caps-3: of Next day; a sound account's day is never later
unfoldable pub next_day_reasons : State → List Reason
next_day_reasons a = because LastDay (leb 3833 a.day) ∷ []

-- form-8, order-2: what an accepted call answers, or the refusal
abbrev pub answer_by : Result ⊤ Refusal → Outcome → Result Outcome Refusal
answer_by (Ok tt) x = Ok x
answer_by (Err r) x = Err r

-- order-2, form-8: the answer of an accepted call
abbrev pub is_taken : Result Outcome Refusal → Bool
is_taken = is_ok

-- order-2, use-13, use-14, promise-2: a use on a sound account, its answer and all but the log
unfoldable pub use_state : State → Kind → ℕ → StateApplied
use_state a k n = record {
  answer = answer_by (verdict_of (use_reasons a k n)) (Charged (charge_of a k (charged_units a.place k n)));
  state = cond (is_accepted (verdict_of (use_reasons a k n))) (spent a (only k n) (charged_units a.place k n)) a;
}
