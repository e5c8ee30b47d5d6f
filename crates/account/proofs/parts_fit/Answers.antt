-- Counters, then charges, then the log.
use Rattle.std.proofs.Common.{sym, ◌∙◌, arith}
use Rattle.tariff.specs.Tests.{all}
use Rattle.tariff.proofs.Tests.{and-false}
use Rattle.state.proofs.Soundness.{counters_tell}
use Rattle.account.specs.Whole.{sound}
use Rattle.account.proofs.parts_fit.Goals as goal

pub returns-then-not-counters_fit : goal.returns-then-not-counters_fit
unfolding sound all
returns-then-not-counters_fit c = simp (sym c.counters_fit.ensures ∙ c.if-not-counters_fit.true)

pub returns-then-not-charges_fit : goal.returns-then-not-charges_fit
unfolding sound all
returns-then-not-charges_fit c = simp (sym c.charges_fit.ensures ∙ c.if-not-charges_fit.true, and-false)

pub log_fits-requires : goal.log_fits-requires
log_fits-requires c =
    let g = counters_tell c.args.state (sym c.counters_fit.ensures ∙ c.if-not-counters_fit.false) in
    (omega (arith, g.logged_ok), g.lifetime_ok)

pub returns : goal.returns
unfolding sound all
returns c =
    simp (sym c.counters_fit.ensures ∙ c.if-not-counters_fit.false, sym c.charges_fit.ensures ∙ c.if-not-charges_fit.false, c.log_fits.ensures)
