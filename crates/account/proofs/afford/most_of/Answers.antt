-- Between what is afforded and what is not.
use Rattle.std.proofs.Common.{◌+◌, ◌-◌, ◌/◌, sym, ◌∙◌, arith}
use Rattle.state.proofs.Soundness.{counters_tell}
use Rattle.quotes.proofs.Quoting.{quotable}
use Rattle.account.proofs.Search.{refused_on, most_is}
use Rattle.account.proofs.afford.most_of.Goals as goal

pub within_quote-requires : goal.within_quote-requires
within_quote-requires c =
    (rw c.quote_of-q.ensures (quotable c.args.a (counters_tell c.args.a c.requires.0.counters) c.args.k), omega (arith, c.loop-lo.invariant.top))

pub loop-lo-preserved-then-within_quote : goal.loop-lo-preserved-then-within_quote
loop-lo-preserved-then-within_quote c =
    let b = c.loop-lo.invariant in
    record { order = omega arith; top = b.top; passes = λ h. sym c.within_quote.ensures ∙ c.if-within_quote.true; none = b.none }

pub loop-lo-preserved : goal.loop-lo-preserved
loop-lo-preserved c =
    let b = c.loop-lo in
    let mid = b.lo + (b.hi - b.lo + 1) / 2 in
    record {
      order = omega arith;
      top = omega (arith, b.invariant.top);
      passes = b.invariant.passes;
      none = λ m h l. refused_on _ mid m (omega arith) (sym c.within_quote.ensures ∙ c.if-within_quote.false);
    }

pub returns : goal.returns
returns c =
    let l = c.loop-lo in
    most_is c.args.a c.args.k l.lo l.hi c.requires.0 c.requires.1 (rw c.quote_of-q.ensures at l.invariant) (omega arith)
