-- `presence::log::log_fits` meets its contract. Assumes nothing.
use Prim.Native.Nat.{◌*◌, ◌-◌, ◌≤◌}
use mathlib.Core.Path.{◌≡◌, sym, ◌∙◌, ap}
use Rattle.tariff.specs.declared.Units.{Units}
use Rattle.tariff.specs.Units.{◌⊕◌, fits}
use Rattle.presence.specs.Day.{day_units}
use Rattle.presence.specs.Log.{days_of, units_over}
use Rattle.presence.specs.Held.{bits_of, place_from, marks_kept}
use Rattle.presence.proofs.Within.{rest_refused, marks_refused, units_refused, within_is, days_bounded, over_room}
use native.Mathlib.Nat.{le_refl}
use native.Mathlib.Omega.{arith}
use Rattle.presence.proofs.log.log_fits.Goals as goal

pub returns-then-rest-ne0 : goal.returns-then-rest-ne0
returns-then-rest-ne0 c =
    let a = c.args in
    sym (rest_refused a.log.now a.today a.n a.lifetime c.requires.0 (λ z. omega (arith, c.bits_between-rest.ensures, c.if-rest-ne0.true, z)))

pub returns-then-marks-gt7 : goal.returns-then-marks-gt7
returns-then-marks-gt7 c =
    let a = c.args in
    sym (marks_refused a.log.now a.today a.n a.lifetime c.requires.0 (omega (arith, c.marks_bits-marks.ensures, c.if-marks-gt7.true)))

pub returns-then-units-ge1099511627776 : goal.returns-then-units-ge1099511627776
returns-then-units-ge1099511627776 c =
    let a = c.args in
    let u = rw (c.join_day.ensures, c.join_days.ensures) at c.units_bits-units.ensures in
    sym (units_refused a.log.now a.today a.n a.lifetime c.requires.0 c.requires.1 (omega (arith, u, c.if-units-ge1099511627776.true)))

pub tally-requires : goal.tally-requires
tally-requires c =
    let a = c.args in
    let u = rw (c.join_day.ensures, c.join_days.ensures) at c.units_bits-units.ensures in
    let b = days_bounded a.n a.log.now a.today (omega (arith, u, c.if-units-ge1099511627776.false)) in
    (c.requires.0, b.0)

pub add_day-sum-requires : goal.add_day-sum-requires
add_day-sum-requires c =
    let a = c.args in
    let u = rw (c.join_day.ensures, c.join_days.ensures) at c.units_bits-units.ensures in
    let b = days_bounded a.n a.log.now a.today (omega (arith, u, c.if-units-ge1099511627776.false)) in
    (rw c.tally.ensures (over_room a.n a.n a.log.now c.requires.0 (le_refl a.n) b.0), b.1)

pub returns : goal.returns
returns c =
    let a = c.args in
    let xs = a.log.now in
    let sum : c.add_day-sum.result ≡ day_units a.today ⊕ units_over a.n (days_of xs) =
    c.add_day-sum.ensures ∙ ap (λ (t : Units). day_units a.today ⊕ t) c.tally.ensures in
    let rest : bits_of (place_from (13 * a.n) xs) (1599 - 13 * a.n) ≡ 0 =
    omega (arith, c.bits_between-rest.ensures, c.if-rest-ne0.false) in
    let marks : bits_of (marks_kept xs) a.n ≤ 7 = omega (arith, c.marks_bits-marks.ensures, c.if-marks-gt7.false) in
    c.units_fit.ensures ∙ ap (λ (t : Units). fits t a.lifetime) sum
    ∙ sym (within_is xs a.today a.n a.lifetime c.requires.0 rest marks)
