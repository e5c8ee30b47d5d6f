-- The states of the services and their step at a day change (service-1, service-7 to service-10). Choices
-- (docs/DECISIONS.md, "Services"): Warned; a step a day. Assumes nothing.
use Rattle.std.specs.Prelude.{ℕ, ◌+◌, ◌<◌, ◌≡◌, Bool, cond, ◌&&◌, List, leb, ltb}
use Rattle.presence.specs.declared.Day.{Day}
use Rattle.presence.specs.declared.Service.{Service}
use Rattle.presence.specs.declared.Service.TheVariants.{DataService, CallService, SmsService}
use Rattle.presence.specs.declared.ServiceState.{ServiceState}
use Rattle.presence.specs.declared.ServiceState.TheVariants.{Clear, Warned, Surcharged}
use Rattle.presence.specs.declared.Services.{Services}
use Rattle.presence.specs.Window.{prevalent_long, prevalent_short}

-- service-7, service-8, service-9, service-10: one step, by whether 123 days are logged, and whether it is prevalent
-- over 123 and over 15
abbrev pub state_step : Bool → Bool → Bool → ServiceState → ServiceState
state_step full long short Clear = cond (full && long) (Warned 0) Clear
state_step full long short (Warned k) = cond (ltb k 14) (Warned (k + 1)) (cond short Surcharged Clear)
state_step full long short Surcharged = cond long Surcharged Clear

-- service-7, service-8, service-9: a service's step with n days logged, the ended one among them
unfoldable pub next_state : Service → ℕ → List Day → ServiceState → ServiceState
next_state s n ds state = state_step (leb 123 n) (prevalent_long s n ds) (prevalent_short s n ds) state

-- service-7, service-8, service-10, law: a short log keeps Clear, a warning counts to 14, and Clear is never Surcharged
-- at once
pub record StateLaws : Type 0 where
  pub stays_clear : (s : Service) (n : ℕ) (ds : List Day) → n < 123 → next_state s n ds Clear ≡ Clear
  pub counts_on : (s : Service) (n k : ℕ) (ds : List Day) → k < 14 → next_state s n ds (Warned k) ≡ Warned (k + 1)
  pub never_at_once : (s : Service) (n : ℕ) (ds : List Day) → next_state s n ds Clear ≡ Surcharged → ⊥

-- service-1, service-10: each service takes its step
unfoldable pub services_after : ℕ → List Day → Services → Services
services_after n ds s = record {
  internet = next_state DataService n ds s.internet;
  calls = next_state CallService n ds s.calls;
  messages = next_state SmsService n ds s.messages;
}
