-- A turn stores the code and the number of one call.
use Rattle.std.proofs.Common.{arith}
use Rattle.conversion.proofs.Listing.{split_none, split_more, split_all}
use Rattle.conversion.proofs.exporting.split_calls.Goals as goal

pub loop-i-init : goal.loop-i-init
loop-i-init c = split_none _ _ _

pub loop-i-preserved : goal.loop-i-preserved
loop-i-preserved c =
    let p = c.requires in
    let code = c.word_at in
    let number = c.word_at-in-loop-i in
    split_more c.loop-i.invariant p.0 p.1 (omega arith) code.result number.result code.ensures number.ensures

pub returns : goal.returns
returns c =
    let e = split_all c.loop-i.invariant (omega arith) in
    record { first = e.0; second = e.1 }
