use Rattle.std.proofs.Common.{◌≡◌, ap, arith}
use Rattle.account.specs.declared.Call.TheVariants.{Afford}
use Rattle.meter.specs.Calls.{call_answer, answer_size}
use Rattle.meter.proofs.Held.{afford_one}
use Rattle.meter.proofs.calls.meter_afford.Goals as goal

pub put_answer-requires : goal.put_answer-requires
put_answer-requires c =
    let e : answer_size c.afford_on-x.result ≡ answer_size (call_answer c.args.account.now (Afford c.kind_of.result))
    = ap answer_size c.afford_on-x.ensures in
    omega (arith, e, afford_one c.args.account.now c.kind_of.result)
