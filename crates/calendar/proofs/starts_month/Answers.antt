-- The search begins after months that begin before the day; where it stops it has found the month, or there is none.
use Rattle.std.proofs.Common.{ℕ, nat_eq, ap, ◌∙◌, arith}
use Rattle.calendar.specs.Table.{month_starts}
use Rattle.calendar.proofs.Months.{month_rule}
use Rattle.calendar.proofs.Search.{passed_first, passed_next, decided, nowhere}
use Rattle.calendar.proofs.starts_month.Goals as goal

pub loop-month-init : goal.loop-month-init
loop-month-init c = passed_first _ _ (omega arith)

pub returns-then-first-day : goal.returns-then-first-day
unfolding month_starts
returns-then-first-day c =
    let e = month_rule c.loop-month.month (omega arith) in
    ap (λ (x : ℕ). nat_eq x c.args.day) e
    ∙ decided c.args.day c.loop-month.month (omega arith) c.loop-month.invariant (omega (arith, c.if-first-day.true, e))

pub loop-month-preserved : goal.loop-month-preserved
unfolding month_starts
loop-month-preserved c =
    passed_next c.args.day c.loop-month.month c.loop-month.invariant
    (omega (arith, c.if-first-day.false, month_rule c.loop-month.month (omega arith)))

pub returns : goal.returns
returns c = nowhere c.args.day c.loop-month.month (omega arith) c.loop-month.invariant
