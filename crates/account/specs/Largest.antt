-- The greatest accepted use, found by going down from the top (afford-1), on a sound account. Choice
-- (docs/DECISIONS.md, "Afford"): the answer. Assumes nothing.
use Rattle.std.specs.Prelude.{ℕ, zero, suc, Bool, cond}
use Rattle.tariff.specs.declared.Kind.{Kind}
use Rattle.tariff.specs.Tests.{verdict_of, is_accepted}
use Rattle.state.specs.declared.State.{State}
use Rattle.state.specs.Reasons.{use_reasons}

-- afford-1: the greatest number from 1 to n that passes the test, 0 if none
unfoldable pub largest : (ℕ → Bool) → ℕ → ℕ
largest test zero = 0
largest test (suc n) = cond (test (suc n)) (suc n) (largest test n)

-- afford-1: a use of n units is accepted
unfoldable pub use_accepted : State → Kind → ℕ → Bool
use_accepted a k n = is_accepted (verdict_of (use_reasons a k n))

-- afford-1, refusal-4: no use over 1,000,000,000 is accepted, so none is missed
unfoldable pub most_units : State → Kind → ℕ
most_units a k = largest (use_accepted a k) 1000000000
