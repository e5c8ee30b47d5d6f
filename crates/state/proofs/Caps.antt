-- What a day's data cap, and a plan, keep of what allowances ask for. Assumes nothing.
use Prim.Native.Nat.{ℕ, ◌≤◌}
use mathlib.Core.Path.{◌≡◌}
use mathlib.Core.Bool.{true}
use Rattle.tariff.specs.Caps.{built_in, caps_on}
use Rattle.tariff.specs.Plan.{CreditFits, BundleFits}
use Rattle.tariff.proofs.Tables.{caps_bound}
use Rattle.state.specs.declared.State.{State}
use Rattle.state.specs.Sound.{counters_sound}
use Rattle.state.proofs.Soundness.{counters_tell, plan_of_state}
use native.Mathlib.Omega.{arith}

pub credit_fits : (credit d : ℕ) → credit ≤ 1000000000 → CreditFits credit (caps_on built_in d).kb
credit_fits credit d h = record { money = h; rate = (caps_bound d).some.kb }

pub bundle_fits : (fee volume d : ℕ) → fee ≤ 10000000 → volume ≤ 1073741824 → BundleFits fee (caps_on built_in d).kb volume
bundle_fits fee volume d f v = record { money = f; rate = (caps_bound d).some.kb; rates = omega (arith, (caps_bound d).most.kb); kilobytes = v }

pub state_fits : (a : State) (d : ℕ) → counters_sound a ≡ true → BundleFits a.plan.fee (caps_on built_in d).kb a.plan.volume
state_fits a d h =
    let r = plan_of_state a (counters_tell a h) in
    bundle_fits a.plan.fee a.plan.volume d r.money r.kilobytes

pub logged_few : (a : State) → counters_sound a ≡ true → a.logged ≤ 123
logged_few a h = let f = counters_tell a h in omega (arith, f.logged_ok)
