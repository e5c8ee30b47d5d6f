-- A number past the largest word is no line's; else the three tests say whether the line is of the form.
use Rattle.std.proofs.Common.{ap, arith}
use Rattle.text.specs.declared.Figure.{Figure}
use Rattle.text.specs.Reading.{figure_of}
use Rattle.textlines.proofs.OneLine.{not_right, right_is}
use Rattle.textlines.proofs.line.is_right.Goals as goal

pub returns-then-figure-gt4294967295 : goal.returns-then-figure-gt4294967295
unfolding figure_of
returns-then-figure-gt4294967295 c =
    let f = c.figure_in-figure in
    not_right c.args.s.now c.code_of-code.result f.result.value c.code_of-code.ensures
    (ap (λ (x : Figure). x.value) f.ensures) (omega arith)

pub returns : goal.returns
unfolding figure_of
returns c =
    let f = c.figure_in-figure in
    let k = c.code_of-code in
    right_is c.args.s.now k.result f.result.value c.call_right-right.result f.result.right c.is_framed-framed.result
    k.ensures (ap (λ (x : Figure). x.value) f.ensures) (omega arith) c.call_right-right.ensures
    (ap (λ (x : Figure). x.right) f.ensures) c.is_framed-framed.ensures.0 c.is_framed-framed.ensures.1
