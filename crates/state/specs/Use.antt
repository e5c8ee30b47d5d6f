-- What a use is charged for, what that makes of the account's sums, and its answer (use-1 to use-15, half-1 to half-4,
-- half-7, limit-1, limit-2). A use leaves the log as it is. Choices (docs/DECISIONS.md, "Account"): home price and
-- surcharge on one kB; use elsewhere; notice; refusal 6; charged seconds; a record is rounded up; units charged, in the
-- answer. Assumes nothing.
use Rattle.std.specs.Prelude.{ℕ, ◌+◌, ◌-◌, max, Bool, false, cond, ◌&&◌, leb, ltb, Option, Some, None}
use Rattle.tariff.specs.declared.Units.{Units}
use Rattle.tariff.specs.declared.Kind.{Kind}
use Rattle.tariff.specs.declared.Kind.TheVariants.{Data, Outgoing, Incoming, Sms}
use Rattle.tariff.specs.declared.Place.TheVariants.{Home, Zone, Elsewhere}
use Rattle.tariff.specs.declared.Plan.{Plan}
use Rattle.tariff.specs.Units.{each, zero_units, ◌⊕◌, ◌⊗◌, only, of_kind}
use Rattle.tariff.specs.Caps.{built_in, caps_on}
use Rattle.tariff.specs.Charges.{billed_kb, counted_kb, after_allowance, home_charges_of, surcharges_of}
use Rattle.presence.specs.declared.ServiceState.{ServiceState}
use Rattle.presence.specs.declared.ServiceState.TheVariants.{Clear, Warned, Surcharged}
use Rattle.presence.specs.declared.Services.{Services}
use Rattle.presence.specs.Day.{in_zone, mark_day, add_day}
use Rattle.state.specs.declared.State.{State}
use Rattle.state.specs.declared.Charge.{Charge}
use Rattle.tariff.specs.declared.Place.{Place}

-- half-1, half-2: how many units a record of n pays for. Law: case by case (`FirstHalfMinute`)
unfoldable pub charged_as : Option Place → Kind → ℕ → ℕ
charged_as w Data n = n
charged_as w Outgoing n = cond (in_zone w) (max n 30) n
charged_as w Incoming n = n
charged_as w Sms n = n

-- half-1, half-2: the same as units, none of other kinds
unfoldable pub charged_units : Option Place → Kind → ℕ → Units
charged_units w k n = only k (charged_as w k n)

-- half-6: units with s for their outgoing seconds
abbrev pub with_seconds : Units → ℕ → Units
with_seconds u s = each u.kb s u.incoming u.sms

-- use-2, use-10: the units that the home price can bear on
unfoldable pub billable : Option Place → Units → Units
billable None u = zero_units
billable (Some Home) u = u
billable (Some Zone) u = u
billable (Some Elsewhere) u = zero_units

-- use-7, use-8, use-10, limit-1: the zone units of a use
unfoldable pub roaming : Option Place → Units → Units
roaming None u = zero_units
roaming (Some Home) u = zero_units
roaming (Some Zone) u = u
roaming (Some Elsewhere) u = zero_units

-- use-3, use-4, use-5: priced units, after h kB of the month
unfoldable pub billed_of : Plan → ℕ → Units → Units
billed_of p h u = record {
  kb = billed_kb p.form p.volume h u.kb;
  outgoing = u.outgoing;
  incoming = 0;
  sms = u.sms;
}

-- use-8, use-9, mistake-3: of n zone units, `past` of them beyond L, those that bear a surcharge
unfoldable pub surcharged_of : ServiceState → ℕ → ℕ → ℕ
surcharged_of Clear past n = past
surcharged_of (Warned k) past n = past
surcharged_of Surcharged past n = n

-- use-7, use-8: the surcharged ones of zone units z, after r zone kB
unfoldable pub surcharged_units : Services → Option ℕ → ℕ → Units → Units
surcharged_units s l r z = record {
  kb = surcharged_of s.internet (after_allowance l r z.kb) z.kb;
  outgoing = surcharged_of s.calls 0 z.outgoing;
  incoming = surcharged_of s.calls 0 z.incoming;
  sms = surcharged_of s.messages 0 z.sms;
}

-- use-11: priced units of the account after a use charged as c
unfoldable pub billed_after : State → Units → Units
billed_after a c = a.meters.billed ⊕ billed_of a.plan a.quota.monthly (billable a.place c)

-- use-7, use-8, use-14: the units of such a use that bear a surcharge
unfoldable pub newly_surcharged : State → Units → Units
newly_surcharged a c = surcharged_units a.services a.quota.allowance a.quota.roamed (roaming a.place c)

-- use-6, use-12: the sums of cap by units after it
unfoldable pub basis_after : State → Units → Units
basis_after a c = a.meters.basis ⊕ caps_on built_in a.day ⊗ newly_surcharged a c

-- use-11: home charges after it
unfoldable pub home_after : State → Units → ℕ
home_after a c = home_charges_of a.plan (billed_after a c)

-- use-12: surcharges after it
unfoldable pub extra_after : State → Units → ℕ
extra_after a c = surcharges_of (basis_after a c)

-- use-13, scope-1, mistake-1: what the two charges grow by. Laws: more units cost no less (`CostGrows`); elsewhere it
-- is 0 (`FreeUse`)
unfoldable pub cost : State → Units → ℕ
cost a c = (home_after a c - a.money.homecharges) + (extra_after a c - a.money.surcharges)

-- use-1, use-13, limit-1, limit-2, half-3, half-4: the account after u units, charged as c. Law: two uses come to one
-- of their sum (`UsesAddUp`)
unfoldable pub spent : State → Units → Units → State
spent a u c = record {
  plan = a.plan;
  day = a.day;
  place = a.place;
  money = record {
    credit = a.money.credit - cost a c;
    paid = a.money.paid;
    homecharges = home_after a c;
    surcharges = extra_after a c;
  };
  meters = record {
    lifetime = a.meters.lifetime ⊕ u;
    chargedseconds = a.meters.chargedseconds + c.outgoing;
    billed = billed_after a c;
    surcharged = a.meters.surcharged ⊕ newly_surcharged a c;
    basis = basis_after a c;
  };
  quota = record {
    monthly = a.quota.monthly + counted_kb a.plan.form (billable a.place c).kb;
    roamed = a.quota.roamed + (roaming a.place c).kb;
    allowance = a.quota.allowance;
  };
  today = add_day a.place u (mark_day a.place a.today);
  logged = a.logged;
  services = a.services;
}

-- use-15: R was below L and is not any more
abbrev pub notice_of : Option ℕ → ℕ → ℕ → Bool
notice_of None before now = false
notice_of (Some l) before now = ltb before l && leb l now

-- use-14, use-15, half-7: what a use answers
unfoldable pub charge_of : State → Kind → Units → Charge
charge_of a k c = record {
  home = home_after a c - a.money.homecharges;
  extra = extra_after a c - a.money.surcharges;
  surcharged = of_kind k (newly_surcharged a c);
  charged = of_kind k c;
  notice = notice_of a.quota.allowance a.quota.roamed (a.quota.roamed + (roaming a.place c).kb);
}
