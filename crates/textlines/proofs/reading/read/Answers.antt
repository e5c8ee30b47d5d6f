-- What each way out answers.
use Rattle.std.proofs.Common.{ap, not}
use Rattle.textlines.proofs.Filling.{answers_21, answers_22, answers_16, answers_calls}
use Rattle.textlines.proofs.reading.read.Goals as goal

pub returns-then-not-lines-text-clause-answer : goal.returns-then-not-lines-text-clause-answer
returns-then-not-lines-text-clause-answer c =
    answers_21 c.args.text.now _ _ c.count_lines-lines.result c.count_lines-lines.ensures
    (ap not c.if-not-lines-text.true)

pub returns-then-right-lines-clause-answer : goal.returns-then-right-lines-clause-answer
returns-then-right-lines-clause-answer c =
    answers_22 c.args.text.now _ _ c.count_lines-lines.result c.count_right-right.result c.count_lines-lines.ensures
    c.count_right-right.ensures (ap not c.if-not-lines-text.false) c.if-right-lines.true

pub returns-then-codes-lines-clause-answer : goal.returns-then-codes-lines-clause-answer
returns-then-codes-lines-clause-answer c =
    answers_16 c.args.text.now _ _ c.count_lines-lines.result c.count_right-right.result c.count_lines-lines.ensures
    c.count_right-right.ensures (ap not c.if-not-lines-text.false) c.if-right-lines.false c.if-codes-lines.true

pub returns-clause-answer : goal.returns-clause-answer
returns-clause-answer c =
    answers_calls c.args.text.now _ _ c.count_lines-lines.result c.count_right-right.result c.count_lines-lines.ensures
    c.count_right-right.ensures (ap not c.if-not-lines-text.false) c.if-right-lines.false c.if-codes-lines.false
