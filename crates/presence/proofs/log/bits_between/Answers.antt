-- `presence::log::bits_between` meets its contract. Assumes nothing.
use Rattle.std.proofs.Common.{◌∙◌, take, drop, ◌-◌, rules}
use lib.Bits.{bit_or}
use native.Mathlib.Omega.{arith}
use Rattle.std.proofs.lemmas.Iterator.Consumers.{fold_from_yields_List}
use Rattle.std.proofs.lemmas.Iterator.{YieldsList-from_slice}
use Rattle.presence.proofs.Bits.{bits_folded}
use Rattle.presence.proofs.log.bits_between.Goals as goal

pub returns : goal.returns
returns c = let n = c.args.to - c.args.from in
    let xs = c.args.log.now in
    fold_from_yields_List _ bit_or 0 c.fold.result c.fold.ensures.ran
    (YieldsList-from_slice (take n (drop c.args.from xs)) c.iter.ensures.rest)
    (λ a x b q k. search rules)
    ∙ bits_folded c.args.from n xs (omega arith)
