-- `presence::window::sum_last` meets its contract. Assumes nothing.
use Rattle.std.proofs.Common.{◌-◌, sym, arith}
use Rattle.presence.proofs.Totals.{sum_none, sum_more}
use Rattle.presence.proofs.window.+sum_last.Goals as goal

pub returns-then-w-eq0-clause-sum : goal.returns-then-w-eq0-clause-sum
returns-then-w-eq0-clause-sum g t c = λ f ds h. sym (sum_none f c.args.w ds (omega (arith, c.if-w-eq0.true)))

pub returns-clause-sum : goal.returns-clause-sum
returns-clause-sum g t c = λ f ds h.
    rw
    (h (c.args.w - 1) c.adds-x.result (omega arith) c.adds-x.ensures, c.sum_last.ensures.sum f ds (λ k r l p. h k r (omega arith) p))
    (sym (sum_more f c.args.w ds c.if-w-eq0.false))
