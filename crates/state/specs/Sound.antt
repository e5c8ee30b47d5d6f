-- When an account is sound, but for its log (sound-1 to sound-6, sound-8 to sound-11, half-6). Choices
-- (docs/DECISIONS.md, "Soundness" and "Account"): extent; the plan in a sound account; charged and spoken seconds in a
-- sound account. Law: every list of calls keeps it (`SoundStaysSound`). Assumes nothing.
use Rattle.std.specs.Prelude.{ℕ, ◌+◌, ◌-◌, min, Bool, true, [], ◌∷◌, leb, eqb, Option, Some, None}
use Rattle.tariff.specs.declared.Units.{Units}
use Rattle.tariff.specs.Tests.{all, is_accepted}
use Rattle.tariff.specs.Units.{each, ◌⊗◌, fits}
use Rattle.tariff.specs.Plan.{plan_verdict}
use Rattle.tariff.specs.Charges.{home_charges_of, surcharges_of}
use Rattle.presence.specs.declared.ServiceState.{ServiceState}
use Rattle.presence.specs.declared.ServiceState.TheVariants.{Clear, Warned, Surcharged}
use Rattle.presence.specs.Log.{lifetime_most}
use Rattle.state.specs.declared.State.{State}
use Rattle.state.specs.Use.{with_seconds}

-- sound-9: L is none or within its limit
abbrev pub allowance_fits : Option ℕ → Bool
allowance_fits None = true
allowance_fits (Some l) = leb l 2000000000000000

-- sound-11: a warning is at most 14 day changes old
abbrev pub warning_fits : ServiceState → Bool
warning_fits Clear = true
warning_fits (Warned k) = leb k 14
warning_fits Surcharged = true

-- half-6, sound-6: what bounds priced and surcharged units: lifetime units, but charged seconds for outgoing ones
abbrev pub chargeable : State → Units
chargeable a = with_seconds a.meters.lifetime a.meters.chargedseconds

-- sound-1, sound-2, sound-5, sound-6, sound-8, sound-9, sound-10, sound-11, half-6: the counters, one by one
unfoldable pub counters_sound : State → Bool
counters_sound a = all
    -- sound-1: such as Open accepts, and a day from the start on
    (is_accepted (plan_verdict a.plan)
    ∷ leb a.plan.start a.day
    ∷ leb a.day 3833
    -- sound-2: limits of lifetime units and of paid in
    ∷ fits a.meters.lifetime lifetime_most
    -- half-6: charged seconds keep the same limit
    ∷ leb a.meters.chargedseconds 1000000000000
    ∷ leb a.money.paid 1000000000
    -- sound-5, sound-6: R, H, priced and surcharged units
    ∷ leb a.quota.roamed a.meters.lifetime.kb
    ∷ leb a.quota.monthly a.meters.lifetime.kb
    ∷ fits a.meters.billed (chargeable a)
    ∷ fits a.meters.surcharged (chargeable a)
    -- sound-8: cap sums; sound-9: L
    ∷ fits a.meters.basis (each 20000 20000 20000 20000 ⊗ a.meters.surcharged)
    ∷ allowance_fits a.quota.allowance
    -- sound-10: days logged; sound-11: warnings
    ∷ eqb a.logged (min 123 (a.day - a.plan.start))
    ∷ warning_fits a.services.internet
    ∷ warning_fits a.services.calls
    ∷ warning_fits a.services.messages
    ∷ [])

-- sound-3, sound-4: both charges as worked out, and the balance
unfoldable pub charges_sound : State → Bool
charges_sound a = all
    (eqb a.money.homecharges (home_charges_of a.plan a.meters.billed)
    ∷ eqb a.money.surcharges (surcharges_of a.meters.basis)
    ∷ eqb a.money.paid (a.money.credit + a.money.homecharges + a.money.surcharges)
    ∷ [])
