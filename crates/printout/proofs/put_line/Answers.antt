use Rattle.std.proofs.Common.{arith}
use Rattle.text.proofs.Decimals.{u64_digits}
use Rattle.text.proofs.Placing.{put_next}
use Rattle.printout.proofs.put_line.Goals as goal

pub returns-clause-buffer : goal.returns-clause-buffer
returns-clause-buffer c =
    let short = u64_digits c.args.n (omega arith) in
    let one = c.put_bytes-figure.ensures in
    let two = c.put_decimal-feed.ensures in
    let three = c.put_bytes.ensures in
    let p = put_next _ _ _ _ _ _ _ _ (record { buffer = one.buffer; end = one.end }) (omega arith) two.buffer two.end in
    (put_next _ _ _ _ _ _ _ _ p (omega arith) three.buffer three.end).buffer
