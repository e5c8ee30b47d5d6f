-- What was paid in bounds the credit.
use Rattle.std.proofs.Common.{arith}
use Rattle.state.proofs.Soundness.{counters_tell, charges_tell}
use Rattle.quotes.proofs.Quoting.{so_far_most}
use Rattle.quotes.proofs.quote_of.Goals as goal

pub overflow_add-result : goal.overflow_add-result
overflow_add-result c =
    let f = counters_tell c.args.a c.requires.counters in
    rw c.spent_so_far.ensures (record { fits = omega (arith, so_far_most c.args.a f c.args.k, (charges_tell c.args.a c.requires.charges).balance, f.paid_ok) })
