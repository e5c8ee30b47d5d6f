-- What each call answers, beside the account that it hands back (account-1, afford-1, use-14, form-8, promise-1).
-- Choices (docs/DECISIONS.md, "Account" and "Afford"): refused Open; the answer; effect. Assumes nothing.
use Rattle.std.specs.Prelude.{ℕ, ◌<◌, ◌≡◌, true, false, cond, List}
use Rattle.tariff.specs.declared.Kind.{Kind}
use Rattle.tariff.specs.declared.Form.TheVariants.{Prepaid}
use Rattle.tariff.specs.declared.Plan.{Plan}
use Rattle.tariff.specs.Tests.{is_accepted}
use Rattle.tariff.specs.Plan.{plan_verdict}
use Rattle.state.specs.declared.State.{State}
use Rattle.state.specs.declared.Outcome.{Outcome}
use Rattle.state.specs.declared.Outcome.TheVariants.{Done, Charged, UpTo}
use Rattle.state.specs.declared.StateApplied.{StateApplied}
use Rattle.state.specs.Use.{charged_units, charge_of}
use Rattle.state.specs.Reasons.{answer_by}
use Rattle.account.specs.declared.Account.{Account}
use Rattle.account.specs.declared.Opened.{Opened}
use Rattle.account.specs.declared.StateOpened.{StateOpened}
use Rattle.account.specs.declared.Applied.{Applied}
use Rattle.account.specs.declared.Call.{Call}
use Rattle.account.specs.declared.Call.TheVariants.{Register, Use, TopUp, NextDay, Afford}
use Rattle.account.specs.Whole.{opened}
use Rattle.account.specs.Calls.{verdict, accepts, step}
use Rattle.account.specs.Largest.{largest}

-- order-2: what stands in an account where Open was refused; its start day is out of range, so every call on it is
-- refused with 0
abbrev pub no_plan : Plan
no_plan = record { form = Prepaid; start = 0; pergb = 0; perminute = 0; persms = 0; fee = 0; volume = 0 }

-- order-4, list-4, account-3: Open's refusal, or the account. Law: it is sound just where Open accepts
-- (`OpenTellsSound`)
unfoldable pub open_answer : Plan → Opened
open_answer p = record {
  answer = plan_verdict p;
  account = cond (is_accepted (plan_verdict p)) (opened p) (opened no_plan);
}

-- aid: the same answer with all of the account but its log, which is empty
abbrev pub opened_parts : Opened → StateOpened
opened_parts x = record { answer = x.answer; state = x.account.state }

-- afford-1: the greatest use that is accepted. Laws: none larger is (`AffordIsLargest`); nothing changes
-- (`AffordChangesNothing`)
unfoldable pub afford_of : Account → Kind → ℕ
afford_of a k = largest (λ n. accepts a (Use k n)) 1000000000

-- afford-1: r is accepted, unless it is 0, and nothing larger is
pub record Affordable (a : Account) (k : Kind) (r : ℕ) : Type 0 where
  pub passes : 0 < r → accepts a (Use k r) ≡ true
  pub none_larger : (m : ℕ) → r < m → accepts a (Use k m) ≡ false

-- use-14, afford-1, form-8: a use answers its charge, Afford its number, other calls nothing more
unfoldable pub accepted_answer : Account → Call → Outcome
accepted_answer a (Register p) = Done
accepted_answer a (Use k n) = Charged (charge_of a.state k (charged_units a.state.place k n))
accepted_answer a (TopUp n) = Done
accepted_answer a NextDay = Done
accepted_answer a (Afford k) = UpTo (afford_of a k)

-- account-1, form-3, order-2, promise-1: a call's answer and account
unfoldable pub applied : Account → Call → Applied
applied a c = record { answer = answer_by (verdict a c) (accepted_answer a c); account = step a c }

-- aid: an account from all but the log, and the log
abbrev pub account_of : State → List ℕ → Account
account_of s l = record { state = s; log = l }

-- aid: the same answer with all of the account but its log
abbrev pub applied_state : Applied → StateApplied
applied_state x = record { answer = x.answer; state = x.account.state }
