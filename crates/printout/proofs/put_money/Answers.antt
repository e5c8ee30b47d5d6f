use Rattle.std.proofs.Common.{arith}
use Rattle.printout.specs.Printout.{money_lines}
use Rattle.text.proofs.Placing.{put_next}
use Rattle.printout.proofs.put_money.Goals as goal

pub returns-clause-buffer : goal.returns-clause-buffer
unfolding money_lines
returns-clause-buffer c =
    let one = c.put_line-at.ensures in
    let two = c.put_line-at-2.ensures in
    let three = c.put_line-at-3.ensures in
    let four = c.put_line-at-4.ensures in
    let five = c.put_line.ensures in
    let p = put_next _ _ _ _ _ _ _ _ (record { buffer = one.buffer; end = one.end }) (omega arith) two.buffer two.end in
    let q = put_next _ _ _ _ _ _ _ _ p (omega arith) three.buffer three.end in
    let r = put_next _ _ _ _ _ _ _ _ q (omega arith) four.buffer four.end in
    (put_next _ _ _ _ _ _ _ _ r (omega arith) five.buffer five.end).buffer
