-- An account as numbers: its log, then all else, group by group (account-2, library-1, library-2). docs/LIBRARY.md has
-- the layout. Choices (docs/DECISIONS.md, "The library"): zone data limit as a number; a service's state as a number;
-- order of the numbers. Assumes nothing.
use Rattle.std.specs.Prelude.{ℕ, ◌+◌, ◌-◌, ◌≡◌, Bool, true, cond, ◌&&◌, List, [], ◌∷◌, ◌++◌, length, get_or, take, drop, leb, eqb, Option, None, Some}
use Rattle.tariff.specs.declared.Units.{Units}
use Rattle.tariff.specs.declared.Place.{Place}
use Rattle.tariff.specs.declared.Place.TheVariants.{Home, Zone, Elsewhere}
use Rattle.tariff.specs.declared.Plan.{Plan}
use Rattle.tariff.specs.declared.Terms.{Terms}
use Rattle.tariff.specs.Plan.{form_word, plan_with}
use Rattle.tariff.specs.Units.{each}
use Rattle.presence.specs.declared.ServiceState.{ServiceState}
use Rattle.presence.specs.declared.ServiceState.TheVariants.{Clear, Warned, Surcharged}
use Rattle.presence.specs.declared.Services.{Services}
use Rattle.presence.specs.Log.{numbers_of, day_from}
use Rattle.state.specs.declared.State.{State}
use Rattle.state.specs.declared.Money.{Money}
use Rattle.state.specs.declared.Meters.{Meters}
use Rattle.state.specs.declared.Quota.{Quota}
use Rattle.state.specs.Sound.{allowance_fits, warning_fits}
use Rattle.account.specs.declared.Account.{Account}

-- library-2: 0 none, 1 home, 2 zone, 3 elsewhere
abbrev pub place_number : Option Place → ℕ
place_number None = 0
place_number (Some Home) = 1
place_number (Some Zone) = 2
place_number (Some Elsewhere) = 3

-- library-2: the place of such a number
abbrev pub place_from : ℕ → Option Place
place_from n = cond (eqb n 0) None (cond (eqb n 1) (Some Home) (cond (eqb n 2) (Some Zone) (Some Elsewhere)))

-- library-2: L, 0 for none, else one more than its kB
abbrev pub allowance_number : Option ℕ → ℕ
allowance_number None = 0
allowance_number (Some l) = l + 1

-- library-2: the L of such a number
abbrev pub allowance_from : ℕ → Option ℕ
allowance_from n = cond (eqb n 0) None (Some (n - 1))

-- library-2: 0 Clear, 1 Surcharged, else two more than the age of the warning
abbrev pub service_number : ServiceState → ℕ
service_number Clear = 0
service_number Surcharged = 1
service_number (Warned k) = k + 2

-- library-2: the state of such a number
abbrev pub service_from : ℕ → ServiceState
service_from n = cond (eqb n 0) Clear (cond (eqb n 1) Surcharged (Warned (n - 2)))

-- library-1: a number for each kind
abbrev pub units_numbers : Units → List ℕ
units_numbers u = u.kb ∷ u.outgoing ∷ u.incoming ∷ u.sms ∷ []

-- library-1, file-7: a plan's seven numbers, as a plan body has them
abbrev pub plan_numbers : Plan → List ℕ
plan_numbers p = form_word p.form ∷ p.start ∷ p.pergb ∷ p.perminute ∷ p.persms ∷ p.fee ∷ p.volume ∷ []

-- library-1, account-2: credit, paid in, home charges, surcharges
abbrev pub money_numbers : Money → List ℕ
money_numbers m = m.credit ∷ m.paid ∷ m.homecharges ∷ m.surcharges ∷ []

-- library-1, account-2, half-3: lifetime units, charged seconds, priced units, surcharged units, cap sums
abbrev pub meters_numbers : Meters → List ℕ
meters_numbers m = units_numbers m.lifetime
    ++ (m.chargedseconds ∷ (units_numbers m.billed ++ (units_numbers m.surcharged ++ units_numbers m.basis)))

-- library-1, account-2: H, R, L
abbrev pub quota_numbers : Quota → List ℕ
quota_numbers q = q.monthly ∷ q.roamed ∷ allowance_number q.allowance ∷ []

-- library-1, account-2, service-1: data, calls, SMS
abbrev pub services_numbers : Services → List ℕ
services_numbers s =
    service_number s.internet ∷ service_number s.calls ∷ service_number s.messages ∷ []

-- library-1, account-2: plan, day, place and money: 13 numbers
abbrev pub front_numbers : State → List ℕ
front_numbers a = plan_numbers a.plan ++ (a.day ∷ place_number a.place ∷ money_numbers a.money)

-- library-1, account-2: how many days are logged, and the services: 4 numbers
abbrev pub end_numbers : State → List ℕ
end_numbers a = a.logged ∷ services_numbers a.services

-- library-1, account-2: all but the log, 50 numbers; a new field's come last
unfoldable pub state_numbers : State → List ℕ
state_numbers a = front_numbers a
    ++ (meters_numbers a.meters ++ (quota_numbers a.quota ++ (numbers_of a.today ++ end_numbers a)))

-- aid: the units of four numbers, from number i on
abbrev pub units_from : List ℕ → ℕ → Units
units_from ys i = each (get_or ys i 0) (get_or ys (i + 1) 0) (get_or ys (i + 2) 0) (get_or ys (i + 3) 0)

-- library-1: a plan's seven numbers as they come from outside
abbrev pub terms_from : List ℕ → Terms
terms_from ys = record {
  form = get_or ys 0 0;
  start = get_or ys 1 0;
  pergb = get_or ys 2 0;
  perminute = get_or ys 3 0;
  persms = get_or ys 4 0;
  fee = get_or ys 5 0;
  volume = get_or ys 6 0;
}

-- library-1: money, from its place among the 50
abbrev pub money_from : List ℕ → Money
money_from ys =
    record { credit = get_or ys 9 0; paid = get_or ys 10 0; homecharges = get_or ys 11 0; surcharges = get_or ys 12 0 }

-- library-1: the meters
abbrev pub meters_from : List ℕ → Meters
meters_from ys = record {
  lifetime = units_from ys 13;
  chargedseconds = get_or ys 17 0;
  billed = units_from ys 18;
  surcharged = units_from ys 22;
  basis = units_from ys 26;
}

-- library-1: H, R, L
abbrev pub quota_from : List ℕ → Quota
quota_from ys =
    record { monthly = get_or ys 30 0; roamed = get_or ys 31 0; allowance = allowance_from (get_or ys 32 0) }

-- library-1: the services
abbrev pub services_from : List ℕ → Services
services_from ys = record {
  internet = service_from (get_or ys 47 0);
  calls = service_from (get_or ys 48 0);
  messages = service_from (get_or ys 49 0);
}

-- library-1: all of an account but its log, from its 50 numbers
unfoldable pub state_from : List ℕ → State
state_from ys = record {
  plan = plan_with (terms_from ys);
  day = get_or ys 7 0;
  place = place_from (get_or ys 8 0);
  money = money_from ys;
  meters = meters_from ys;
  quota = quota_from ys;
  today = day_from (drop 33 ys);
  logged = get_or ys 46 0;
  services = services_from ys;
}

-- library-1: of 1,649 numbers the log's 1,599
unfoldable pub log_part : List ℕ → List ℕ
log_part xs = take 1599 xs

-- library-1: and the others
unfoldable pub rest_part : List ℕ → List ℕ
rest_part xs = drop 1599 xs

-- library-1, account-2: the numbers of an account
unfoldable pub account_numbers : Account → List ℕ
account_numbers a = a.log ++ state_numbers a.state

-- library-1: the account of numbers. Laws: each is the other's (`AccountOfItsNumbers`, `NumbersOfTheirAccount`)
unfoldable pub account_from : List ℕ → Account
account_from xs = record { state = state_from (rest_part xs); log = log_part xs }

-- library-2: form, place and today's marks stand for one; every number stands for some L and some state
unfoldable pub tags_known : List ℕ → Bool
tags_known ys = leb (get_or ys 0 0) 2 && leb (get_or ys 8 0) 3 && leb (get_or ys 33 0) 7

-- library-1, library-5: 1,649 numbers with known tags
unfoldable pub is_account : List ℕ → Bool
is_account xs = eqb (length xs) 1649 && tags_known (rest_part xs)

-- aid: what keeps the numbers of L and of the states within the machine's, as in every sound account
pub record Writable (a : State) : Type 0 where
  pub allowance : allowance_fits a.quota.allowance ≡ true
  pub internet : warning_fits a.services.internet ≡ true
  pub calls : warning_fits a.services.calls ≡ true
  pub messages : warning_fits a.services.messages ≡ true
