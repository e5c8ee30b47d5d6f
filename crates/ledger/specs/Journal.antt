-- The book, here the journal, worked out from the opening and the accepted calls alone (book-1 to book-11, half-9). Its
-- items, here entries, stand latest first, so that earlier ones are the rest of the list. What it defines anew and what
-- it shares with the account: docs/DESIGN.md. Choices (docs/DECISIONS.md, "Account" and "Afford"): month's first day,
-- prepaid; a top-up and marks; in the book. Assumes nothing.
use Rattle.std.specs.Prelude.{ℕ, zero, suc, ◌+◌, ◌-◌, min, Bool, true, false, not, cond, ◌&&◌, ◌||◌, List, [], ◌∷◌, ◌++◌, take, replicate, eqb, ltb, Option, Some, None}
use Rattle.calendar.specs.Calendar.{month_of}
use Rattle.tariff.specs.declared.Units.{Units}
use Rattle.tariff.specs.declared.Kind.TheVariants.{Data, Outgoing, Incoming, Sms}
use Rattle.tariff.specs.declared.Place.{Place}
use Rattle.tariff.specs.declared.Place.TheVariants.{Home, Zone, Elsewhere}
use Rattle.tariff.specs.declared.Form.{Form}
use Rattle.tariff.specs.declared.Form.TheVariants.{Prepaid}
use Rattle.tariff.specs.declared.Plan.{Plan}
use Rattle.tariff.specs.Units.{each, zero_units, ◌⊕◌, ◌⊗◌}
use Rattle.tariff.specs.Caps.{built_in, caps_on}
use Rattle.tariff.specs.Plan.{is_prepaid, credit_allowance, plan_allowance}
use Rattle.tariff.specs.Charges.{counted_kb, home_charges_of, surcharges_of}
use Rattle.presence.specs.declared.Day.{Day}
use Rattle.presence.specs.declared.Services.{Services}
use Rattle.presence.specs.declared.ServiceState.TheVariants.{Clear}
use Rattle.presence.specs.Day.{empty_day}
use Rattle.presence.specs.Log.{days_of}
use Rattle.presence.specs.Service.{services_after}
use Rattle.state.specs.Use.{billable, roaming, billed_of, surcharged_units}
use Rattle.account.specs.declared.Account.{Account}
use Rattle.account.specs.declared.Call.{Call}
use Rattle.account.specs.declared.Call.TheVariants.{Register, Use, TopUp, NextDay, Afford}
use Rattle.account.specs.Calls.{accepts, step}
use Rattle.ledger.specs.Lists.{units_of, amount_of, marks}

-- book-3: an accepted call, with day and place
pub record Entry : Type 0 where
  pub call : Call
  pub day : ℕ
  pub place : Option Place

-- book-3, book-4: the items, and the day and place that the next one gets
pub record Journal : Type 0 where
  pub entries : List Entry
  pub day : ℕ
  pub place : Option Place

-- book-2: what the book begins with: plan, day, place, L, service states; paid in, priced units and cap sums, H and R
-- so far; the day's record so far; the days before, and how many count
pub record Opening : Type 0 where
  pub plan : Plan
  pub day : ℕ
  pub place : Option Place
  pub paid : ℕ
  pub billed : Units
  pub basis : Units
  pub monthly : ℕ
  pub roamed : ℕ
  pub allowance : Option ℕ
  pub today : Day
  pub days : List Day
  pub logged : ℕ
  pub services : Services

-- book-1, book-2: of a new account, from what Open got alone
unfoldable pub new_opening : Plan → Opening
new_opening p = record {
  plan = p;
  day = p.start;
  place = None;
  paid = 0;
  billed = zero_units;
  basis = zero_units;
  monthly = 0;
  roamed = 0;
  allowance = plan_allowance p (caps_on built_in p.start).kb;
  today = empty_day;
  days = replicate 123 empty_day;
  logged = 0;
  services = record { internet = Clear; calls = Clear; messages = Clear };
}

-- aid to `Demand3FromSound`: of an account in use, from its fields
unfoldable pub opening_of : Account → Opening
opening_of a = record {
  plan = a.state.plan;
  day = a.state.day;
  place = a.state.place;
  paid = a.state.money.paid;
  billed = a.state.meters.billed;
  basis = a.state.meters.basis;
  monthly = a.state.quota.monthly;
  roamed = a.state.quota.roamed;
  allowance = a.state.quota.allowance;
  today = a.state.today;
  days = days_of a.log;
  logged = a.state.logged;
  services = a.state.services;
}

-- book-2: the book before its first item
unfoldable pub new_journal : Opening → Journal
new_journal o = record { entries = []; day = o.day; place = o.place }

-- book-4: the place after a call
unfoldable pub place_after : Option Place → Call → Option Place
place_after w (Register q) = Some q
place_after w (Use k n) = w
place_after w (TopUp n) = w
place_after w NextDay = w
place_after w (Afford k) = w

-- book-4: the day after a call
unfoldable pub day_next : ℕ → Call → ℕ
day_next d (Register q) = d
day_next d (Use k n) = d
day_next d (TopUp n) = d
day_next d NextDay = suc d
day_next d (Afford k) = d

-- book-3, book-4: one accepted call more
unfoldable pub enter : Journal → Call → Journal
enter j c = record {
  entries = record { call = c; day = j.day; place = place_after j.place c } ∷ j.entries;
  day = day_next j.day c;
  place = place_after j.place c;
}

-- book-1: each call, and whether it was accepted
unfoldable pub answered : Account → List Call → List (Call × Bool)
answered a [] = []
answered a (c ∷ cs) = (c, accepts a c) ∷ answered (step a c) cs

-- book-5: the book fed with these; a refused call changes nothing
unfoldable pub write : Journal → List (Call × Bool) → Journal
write j [] = j
write j (f ∷ fs) = write (cond f.1 (enter j f.0) j) fs

-- book-6: the points of all top-ups, after the opening's
unfoldable pub paid_in : Opening → List Entry → ℕ
paid_in o [] = o.paid
paid_in o (e ∷ es) = paid_in o es + amount_of e.call

-- aid: the location is the place
unfoldable pub at_place : Place → Option Place → Bool
at_place p None = false
at_place Home (Some Home) = true
at_place Home (Some Zone) = false
at_place Home (Some Elsewhere) = false
at_place Zone (Some Home) = false
at_place Zone (Some Zone) = true
at_place Zone (Some Elsewhere) = false
at_place Elsewhere (Some Home) = false
at_place Elsewhere (Some Zone) = false
at_place Elsewhere (Some Elsewhere) = true

-- half-9, half-1, half-2: the units that an item pays for, told by the book itself
unfoldable pub charged_of : Option Place → Call → Units
charged_of w (Register q) = zero_units
charged_of w (Use Data n) = each n 0 0 0
charged_of w (Use Outgoing n) = each 0 (cond (at_place Zone w && ltb n 30) 30 n) 0 0
charged_of w (Use Incoming n) = each 0 0 n 0
charged_of w (Use Sms n) = each 0 0 0 n
charged_of w (TopUp n) = zero_units
charged_of w NextDay = zero_units
charged_of w (Afford k) = zero_units

-- book-7, book-11: an entry's units that a home price can bear on
unfoldable pub home_part : Entry → Units
home_part e = billable e.place (charged_of e.place e.call)

-- book-8, book-11: an entry's zone units
unfoldable pub zone_part : Entry → Units
zone_part e = roaming e.place (charged_of e.place e.call)

-- book-7, book-8: n where the entry is of the day's month, else 0; months told by their number
unfoldable pub of_month : ℕ → Entry → ℕ → ℕ
of_month d e n = cond (eqb (month_of e.day) (month_of d)) n 0

-- book-7, book-8: n, a sum of the month that the book began in, where the day is of that month, else 0
unfoldable pub month_before : Opening → ℕ → ℕ → ℕ
month_before o d n = cond (eqb (month_of o.day) (month_of d)) n 0

-- book-7: H, from earlier items of the month; a prepaid plan's stays as it began
unfoldable pub monthly_kb : Opening → ℕ → List Entry → ℕ
monthly_kb o d [] = cond (is_prepaid o.plan.form) o.monthly (month_before o d o.monthly)
monthly_kb o d (e ∷ es) = monthly_kb o d es + of_month d e (counted_kb o.plan.form (home_part e).kb)

-- book-11: priced units of each use, added up
unfoldable pub billed_units : Opening → List Entry → Units
billed_units o [] = o.billed
billed_units o (e ∷ es) = billed_units o es ⊕ billed_of o.plan (monthly_kb o e.day es) (home_part e)

-- book-11: home charges over all items
unfoldable pub journal_home : Opening → List Entry → ℕ
journal_home o es = home_charges_of o.plan (billed_units o es)

-- book-4: the place after the entries
unfoldable pub last_place : Opening → List Entry → Option Place
last_place o [] = o.place
last_place o (e ∷ es) = e.place

-- book-8: a registration comes into the zone from outside it
unfoldable pub comes_in : Option Place → Place → Bool
comes_in w Home = false
comes_in w Zone = not (at_place Zone w)
comes_in w Elsewhere = false

-- book-8, book-9, mistake-5: a call, made at a place, that sets a prepaid L
unfoldable pub sets_allowance : Form → Option Place → Call → Bool
sets_allowance f w (Register q) = is_prepaid f && comes_in w q
sets_allowance f w (Use k n) = false
sets_allowance f w (TopUp n) = is_prepaid f && at_place Zone w
sets_allowance f w NextDay = false
sets_allowance f w (Afford k) = false

-- book-9: a bundle's day change, from day d, into another month
unfoldable pub changes_month : Plan → ℕ → Call → Bool
changes_month p d (Register q) = false
changes_month p d (Use k n) = false
changes_month p d (TopUp n) = false
changes_month p d NextDay = not (is_prepaid p.form) && not (eqb (month_of (suc d)) (month_of d))
changes_month p d (Afford k) = false

-- book-8: zone kB in the entries of the day's month
unfoldable pub zone_of_month : Opening → ℕ → List Entry → ℕ
zone_of_month o d [] = month_before o d o.roamed
zone_of_month o d (e ∷ es) = zone_of_month o d es + of_month d e (zone_part e).kb

-- book-8: zone kB since a prepaid L was last set
unfoldable pub zone_since : Opening → List Entry → ℕ
zone_since o [] = o.roamed
zone_since o (e ∷ es) = cond (sets_allowance Prepaid (last_place o es) e.call) 0 (zone_since o es + (zone_part e).kb)

-- book-8: R of a use after the entries
unfoldable pub journal_roamed : Opening → ℕ → List Entry → ℕ
journal_roamed o d es = cond (is_prepaid o.plan.form) (zone_since o es) (zone_of_month o d es)

-- aid: a day's mark of a place
unfoldable pub mark_at : Place → Day → Bool
mark_at Home d = d.home
mark_at Zone d = d.zone
mark_at Elsewhere d = d.elsewhere

-- aid: a day's units at a place
unfoldable pub units_at : Place → Day → Units
units_at Home d = d.athome
units_at Zone d = d.inzone
units_at Elsewhere d = d.outside

-- book-10: a registration or use of the day was at the place
unfoldable pub marked_on : Opening → ℕ → Place → List Entry → Bool
marked_on o d p [] = eqb o.day d && mark_at p o.today
marked_on o d p (e ∷ es) = (eqb e.day d && (marks e.call && at_place p e.place)) || marked_on o d p es

-- book-10, half-4: a day's units at a place, seconds as spoken
unfoldable pub used_on : Opening → ℕ → Place → List Entry → Units
used_on o d p [] = cond (eqb o.day d) (units_at p o.today) zero_units
used_on o d p (e ∷ es) = cond (eqb e.day d && at_place p e.place)
    (used_on o d p es ⊕ units_of e.call) (used_on o d p es)

-- book-10: a day's marks and units
unfoldable pub day_of : Opening → ℕ → List Entry → Day
day_of o d es = record {
  home = marked_on o d Home es;
  zone = marked_on o d Zone es;
  elsewhere = marked_on o d Elsewhere es;
  athome = used_on o d Home es;
  inzone = used_on o d Zone es;
  outside = used_on o d Elsewhere es;
}

-- book-10: the first k days from the opening on, the latest first
unfoldable pub days : Opening → ℕ → List Entry → List Day
days o zero es = []
days o (suc k) es = day_of o (o.day + k) es ∷ days o k es

-- book-10: the last 123 of them and those before, empty where there were none
unfoldable pub last_days : Opening → List Day → List Day
last_days o ds = take 123 (ds ++ o.days)

-- book-10: the service states after k days from the opening on
unfoldable pub journal_services : Opening → ℕ → List Entry → Services
journal_services o zero es = o.services
journal_services o (suc k) es = services_after (min 123 (o.logged + suc k))
    (last_days o (days o (suc k) es)) (journal_services o k es)

-- book-9, mistake-2, mistake-4: L after an entry, from the book's own credit. An entry that sets L has no units, so the
-- cap sums are those of the earlier entries
unfoldable pub new_allowance : Opening → Entry → List Entry → Option ℕ → Units → Option ℕ
new_allowance o e es old basis =
    cond (sets_allowance o.plan.form (last_place o es) e.call)
    (credit_allowance
    (paid_in o (e ∷ es) - (journal_home o (e ∷ es) + surcharges_of basis)) (caps_on built_in e.day).kb)
    (cond (changes_month o.plan e.day e.call)
    (plan_allowance o.plan (caps_on built_in (suc e.day)).kb) old)

-- book-9, book-11: L after the entries, and the cap sums of each use's surcharged units
unfoldable mutual
  pub journal_allowance : Opening → List Entry → Option ℕ
  journal_allowance o [] = o.allowance
  journal_allowance o (e ∷ es) = new_allowance o e es (journal_allowance o es) (journal_basis o es)

  pub journal_basis : Opening → List Entry → Units
  journal_basis o [] = o.basis
  journal_basis o (e ∷ es) = journal_basis o es ⊕ caps_on built_in e.day ⊗ surcharged_units
      (journal_services o (e.day - o.day) es)
      (journal_allowance o es)
      (journal_roamed o e.day es)
      (zone_part e)

-- book-11: surcharges over all items
unfoldable pub journal_surcharges : Opening → List Entry → ℕ
journal_surcharges o es = surcharges_of (journal_basis o es)
