-- A sound account's sums stay within the machine's numbers.
use Rattle.std.proofs.Common.{arith}
use Rattle.state.proofs.Soundness.{counters_tell}
use Rattle.quotes.proofs.Quoting.{product_most, so_far_most}
use Rattle.quotes.proofs.spent_so_far.Goals as goal

pub overflow_mul-priced : goal.overflow_mul-priced
overflow_mul-priced c =
    rw (c.price_of.ensures, c.amount.ensures)
    (record { fits = omega (arith, product_most c.args.a.now (counters_tell _ c.requires.counters) c.args.k) })

pub overflow_add-result : goal.overflow_add-result
overflow_add-result c =
    rw (c.points_of-2.ensures, c.points_of.ensures, c.amount-2.ensures, c.amount.ensures, c.price_of.ensures)
    (record { fits = omega (arith, so_far_most c.args.a.now (counters_tell _ c.requires.counters) c.args.k) })
