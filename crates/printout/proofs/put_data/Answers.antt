use Rattle.std.proofs.Common.{arith}
use Rattle.printout.specs.Printout.{data_lines}
use Rattle.text.proofs.Placing.{put_next}
use Rattle.printout.proofs.put_data.Goals as goal

pub returns-clause-buffer : goal.returns-clause-buffer
unfolding data_lines
returns-clause-buffer c =
    let one = c.put_limit-next.ensures in
    let two = c.put_line-next.ensures in
    let three = c.put_line-next-2.ensures in
    let four = c.put_line.ensures in
    let p = put_next _ _ _ _ _ _ _ _ (record { buffer = one.buffer; end = one.end }) (omega arith) two.buffer two.end in
    let q = put_next _ _ _ _ _ _ _ _ p (omega arith) three.buffer three.end in
    (put_next _ _ _ _ _ _ _ _ q (omega arith) four.buffer four.end).buffer
