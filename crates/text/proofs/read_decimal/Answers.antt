-- One byte more, and the figure where all bytes are read.
use Rattle.std.proofs.Common.{◌∙◌, arith}
use Rattle.text.proofs.Reading.{value_more, digits_more, figure_read}
use Rattle.text.proofs.read_decimal.Goals as goal

pub loop-d-preserved : goal.loop-d-preserved
loop-d-preserved c =
    let ds = c.args.digits.now in
    let l = c.loop-d in
    let v = value_more ds l.value l.d-index (omega arith) ∙ l.invariant.value in
    let r = digits_more ds l.right l.d-index (omega arith) ∙ l.invariant.right in
    record { within = omega arith; value = cc; right = cc }

pub returns-then-right : goal.returns-then-right
returns-then-right c =
    let l = c.loop-d in
    rw c.is_short.ensures
    (rw c.if-right.true at
    (figure_read c.args.digits.now l.value l.right l.d-index (omega arith) l.invariant.within l.invariant.value l.invariant.right))

pub returns-else-right : goal.returns-else-right
returns-else-right c =
    let l = c.loop-d in
    rw c.if-right.false
    (rw c.if-right.false at
    (figure_read c.args.digits.now l.value l.right l.d-index (omega arith) l.invariant.within l.invariant.value l.invariant.right))
