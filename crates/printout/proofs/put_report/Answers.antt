use Rattle.std.proofs.Common.{arith}
use Rattle.printout.specs.Printout.{text_of}
use Rattle.text.proofs.Placing.{put_next}
use Rattle.printout.proofs.put_report.Goals as goal

pub returns-in-Ok-clause-buffer : goal.returns-in-Ok-clause-buffer
unfolding text_of
returns-in-Ok-clause-buffer c =
    let one = c.put_money-at.ensures in
    let two = c.put_data.ensures in
    let p = put_next _ _ _ _ _ _ _ _ (record { buffer = one.buffer; end = omega (arith, one.end) }) (omega arith) two.buffer two.end in
    rw c.in-Ok.is p.buffer
