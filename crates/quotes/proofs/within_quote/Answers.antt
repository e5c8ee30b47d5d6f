-- The points of a kind's figures are bounded.
use Rattle.std.proofs.Common.{◌≤◌, arith}
use Rattle.quotes.proofs.Quoting.{quoted_most}
use Rattle.quotes.proofs.within_quote.Goals as goal

pub overflow_add-result : goal.overflow_add-result
overflow_add-result c =
    let few : c.max-c.result ≤ 1000000000 = rw c.max-c.ensures (omega (arith, c.requires.0.least_most, c.requires.1)) in
    rw (c.points_of-home.ensures, c.points_of-extra.ensures, c.saturating_sub.ensures, c.saturating_sub-2.ensures)
    (record { fits = omega (arith, quoted_most c.args.q c.requires.0 c.max-c.result few) })
