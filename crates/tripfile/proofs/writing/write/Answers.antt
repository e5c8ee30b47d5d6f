-- A write that is not declined has what filling the buffer asks.
use Rattle.std.proofs.Common.{◌≡◌, Ok, sym, ◌∙◌, ap, length, arith}
use Rattle.tariff.specs.Tests.{is_accepted}
use Rattle.tripfile.specs.Writing.{write_verdict}
use Rattle.tripfile.proofs.Accepted.{writes, ready}
use Rattle.tripfile.proofs.writing.write.Goals as goal

pub fill-requires : goal.fill-requires
fill-requires c =
    let a = c.args in
    let e : write_verdict a.plan a.codes.now a.numbers.now (length a.buf.now) ≡ Ok tt = sym c.verdict_on.ensures ∙ c.in_ok-verdict_on.was in
    ready _ _ _ _ (writes a.plan a.codes.now a.numbers.now (length a.buf.now) (ap is_accepted e))

pub overflow_add-result : goal.overflow_add-result
overflow_add-result c =
    let a = c.args in
    let e : write_verdict a.plan a.codes.now a.numbers.now (length a.buf.now) ≡ Ok tt = sym c.verdict_on.ensures ∙ c.in_ok-verdict_on.was in
    omega (arith, writes a.plan a.codes.now a.numbers.now (length a.buf.now) (ap is_accepted e))
