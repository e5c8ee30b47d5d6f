-- What opening, registering, topping up and a day change make of all but the log (account-3, limit-4, limit-7,
-- register-1, register-2, topup-1, topup-2, day-3). Choices (docs/DECISIONS.md, "Account"): month's first day, prepaid;
-- order within a day change; which cap turns the month; registering in the zone while there; leaving the zone; top-up
-- outside the zone. Assumes nothing.
use Rattle.std.specs.Prelude.{ℕ, ◌+◌, min, ◌≡◌, Bool, true, false, not, cond, ◌&&◌, List, Option, Some, None}
use Rattle.calendar.specs.Calendar.{starts_month}
use Rattle.tariff.specs.declared.Place.{Place}
use Rattle.tariff.specs.declared.Place.TheVariants.{Zone}
use Rattle.tariff.specs.declared.Form.{Form}
use Rattle.tariff.specs.declared.Plan.{Plan}
use Rattle.tariff.specs.Units.{zero_units}
use Rattle.tariff.specs.Caps.{built_in, caps_on}
use Rattle.tariff.specs.Plan.{is_prepaid, credit_allowance, plan_allowance}
use Rattle.presence.specs.declared.ServiceState.TheVariants.{Clear}
use Rattle.presence.specs.declared.Services.{Services}
use Rattle.presence.specs.declared.Day.{Day}
use Rattle.presence.specs.Day.{in_zone, empty_day, mark_day}
use Rattle.presence.specs.Service.{services_after}
use Rattle.state.specs.declared.Meters.{Meters}
use Rattle.state.specs.declared.Money.{Money}
use Rattle.state.specs.declared.Quota.{Quota}
use Rattle.state.specs.declared.State.{State}

-- account-3: every service Clear
abbrev pub all_clear : Services
all_clear = record { internet = Clear; calls = Clear; messages = Clear }

-- account-3: no units yet
abbrev pub no_meters : Meters
no_meters = record {
  lifetime = zero_units;
  chargedseconds = 0;
  billed = zero_units;
  surcharged = zero_units;
  basis = zero_units;
}

-- account-2, account-3, plan-3, plan-5, limit-4, limit-7: a new account
unfoldable pub opened_state : Plan → State
opened_state p = record {
  plan = p;
  day = p.start;
  place = None;
  money = record { credit = 0; paid = 0; homecharges = 0; surcharges = 0 };
  meters = no_meters;
  quota = record { monthly = 0; roamed = 0; allowance = plan_allowance p (caps_on built_in p.start).kb };
  today = empty_day;
  logged = 0;
  services = all_clear;
}

-- register-2, mistake-5: a prepaid account comes into the zone
unfoldable pub enters : Form → Option Place → Place → Bool
enters f from to = is_prepaid f && (not (in_zone from) && in_zone (Some to))

-- register-2, topup-2: where b holds, a new L, and R counts anew; H stays
abbrev pub renewed_if : Bool → Option ℕ → Quota → Quota
renewed_if b l q = record { monthly = q.monthly; roamed = cond b 0 q.roamed; allowance = cond b l q.allowance }

-- register-1, register-2, mistake-5: the account registered at the place
unfoldable pub registered : State → Place → State
registered a p = record {
  plan = a.plan;
  day = a.day;
  place = Some p;
  money = a.money;
  meters = a.meters;
  quota = renewed_if (enters a.plan.form a.place p)
      (credit_allowance a.money.credit (caps_on built_in a.day).kb) a.quota;
  today = mark_day (Some p) a.today;
  logged = a.logged;
  services = a.services;
}

-- topup-2: a prepaid account is topped up in the zone
unfoldable pub renews : Form → Option Place → Bool
renews f w = is_prepaid f && in_zone w

-- topup-1: n points more of credit and paid in
abbrev pub paid_more : ℕ → Money → Money
paid_more n m = record {
  credit = m.credit + n;
  paid = m.paid + n;
  homecharges = m.homecharges;
  surcharges = m.surcharges;
}

-- topup-1, topup-2, mistake-2: the account topped up by n
unfoldable pub topped : State → ℕ → State
topped a n = record {
  plan = a.plan;
  day = a.day;
  place = a.place;
  money = paid_more n a.money;
  meters = a.meters;
  quota = renewed_if (renews a.plan.form a.place)
      (credit_allowance (a.money.credit + n) (caps_on built_in a.day).kb) a.quota;
  today = a.today;
  logged = a.logged;
  services = a.services;
}

-- limit-7: a bundle's month begins on the day
unfoldable pub turns_month : Plan → ℕ → Bool
turns_month p d = not (is_prepaid p.form) && starts_month d

-- limit-7: where b holds, a new L, and H and R count anew
abbrev pub turned_if : Bool → Option ℕ → Quota → Quota
turned_if b l q = record {
  monthly = cond b 0 q.monthly;
  roamed = cond b 0 q.roamed;
  allowance = cond b l q.allowance;
}

-- day-1, day-3, limit-7, service-1, mistake-4: the account a day later, where ds is the log with today in it
unfoldable pub next_state_of : State → List Day → State
next_state_of a ds = record {
  plan = a.plan;
  day = a.day + 1;
  place = a.place;
  money = a.money;
  meters = a.meters;
  quota = turned_if (turns_month a.plan (a.day + 1))
      (plan_allowance a.plan (caps_on built_in (a.day + 1)).kb) a.quota;
  today = empty_day;
  logged = min 123 (a.logged + 1);
  services = services_after (min 123 (a.logged + 1)) ds a.services;
}

-- register-2, topup-2, limit-7, mistake-4, mistake-5, law: what leaves H, R and L as they are: registering again in the
-- zone, a bundle's top-up, a prepaid account's day change
pub record LimitsKept : Type 0 where
  pub again : (a : State) → a.place ≡ Some Zone → (registered a Zone).quota ≡ a.quota
  pub bundle_topped : (a : State) (n : ℕ) → is_prepaid a.plan.form ≡ false → (topped a n).quota ≡ a.quota
  pub prepaid_month : (a : State) (ds : List Day) → is_prepaid a.plan.form ≡ true
      → (next_state_of a ds).quota ≡ a.quota
