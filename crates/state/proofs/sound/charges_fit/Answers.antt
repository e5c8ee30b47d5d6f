-- Sound counters bound the charges; where no charge differs, the balance is told by what was paid in and what is left.
use Rattle.std.proofs.Common.{◌≡◌, false, sym, ◌∙◌, arith}
use borrow.Author.Tests.{eq-eqb, eqb-true}
use Rattle.tariff.specs.Charges.{home_charges_of, surcharges_of}
use Rattle.tariff.proofs.Tests.{bool_ext}
use Rattle.tariff.proofs.ChargeLaws.{home_charges_bounded, surcharges_bounded}
use Rattle.state.specs.declared.State.{State}
use Rattle.state.specs.Sound.{charges_sound}
use Rattle.state.proofs.Soundness.{counters_tell, billed_held, basis_held, Balanced, charges_tell, charges_pass}
use Rattle.state.proofs.sound.charges_fit.Goals as goal

pub home_of-home-requires : goal.home_of-home-requires
home_of-home-requires c = billed_held c.args.a (counters_tell c.args.a c.requires)

pub surcharges_from-extra-requires : goal.surcharges_from-extra-requires
surcharges_from-extra-requires c = basis_held c.args.a (counters_tell c.args.a c.requires)

pub overflow_add-result : goal.overflow_add-result
overflow_add-result c =
    let f = counters_tell c.args.a c.requires in
    omega (arith, c.home_of-home.ensures, c.surcharges_from-extra.ensures, home_charges_bounded c.args.a.plan c.args.a.meters.billed (billed_held c.args.a f), surcharges_bounded c.args.a.meters.basis (basis_held c.args.a f))

-- charges that differ from those worked out, or a balance that does not hold, are not sound
unsound : (a : State) → (Balanced a → ⊥) → false ≡ charges_sound a
unsound a h = bool_ext _ _ (λ e. cc) (λ e. absurd (h (charges_tell a e)))

pub returns-then-a-home : goal.returns-then-a-home
returns-then-a-home c = unsound _ (λ b. c.if-a-home.true (b.worked.home_is ∙ sym c.home_of-home.ensures))

pub returns-then-a-extra : goal.returns-then-a-extra
returns-then-a-extra c = unsound _ (λ b. c.if-a-extra.true (b.worked.extra_is ∙ sym c.surcharges_from-extra.ensures))

pub returns-then-a : goal.returns-then-a
returns-then-a c = unsound _ (λ b. omega (arith, b.balance, c.if-a.true))

pub returns : goal.returns
returns c =
    let a = c.args.a in
    let h : a.money.homecharges ≡ home_charges_of a.plan a.meters.billed = c.if-a-home.false ∙ c.home_of-home.ensures in
    let x : a.money.surcharges ≡ surcharges_of a.meters.basis = c.if-a-extra.false ∙ c.surcharges_from-extra.ensures in
    bool_ext _ _
    (λ e. charges_pass a (record {
      worked = record { home_is = h; extra_is = x };
      balance = omega (arith, eqb-true _ _ e, c.if-a-home.false, c.if-a-extra.false, c.if-a.false);
    }))
    (λ e. eq-eqb _ _ (omega (arith, (charges_tell a e).balance, c.if-a-home.false, c.if-a-extra.false)))
