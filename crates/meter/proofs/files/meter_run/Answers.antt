use Rattle.std.proofs.Common.{sym, ◌∙◌, length}
use borrow.Author.Tests.{le-leb}
use Rattle.meter.proofs.Ran.{section_two, run_done}
use Rattle.meter.proofs.files.meter_run.Goals as goal

pub part-requires : goal.part-requires
part-requires c = section_two _ _ (sym c.read.ensures ∙ c.in-Ok.is)

pub returns-in-Ok-clause-numbers : goal.returns-in-Ok-clause-numbers
returns-in-Ok-clause-numbers c =
    let a = c.args in
    let h = le-leb 1 (length a.answer.now) c.if-answer-lt1.false in
    let r = c.run_held-refused in
    rw h (run_done a.account.now a.file.now a.answer.now _ c.part.result.now _ _ r.result
    (sym c.sound_held.ensures ∙ c.if-not-sound_held.false) (sym c.read.ensures ∙ c.in-Ok.is)
    c.part.ensures.bytes r.ensures.refused r.ensures.numbers c.put_number.ensures).1.0

pub returns-in-Ok-clause-answered : goal.returns-in-Ok-clause-answered
returns-in-Ok-clause-answered c =
    let a = c.args in
    let h = le-leb 1 (length a.answer.now) c.if-answer-lt1.false in
    let r = c.run_held-refused in
    rw h (run_done a.account.now a.file.now a.answer.now _ c.part.result.now _ _ r.result
    (sym c.sound_held.ensures ∙ c.if-not-sound_held.false) (sym c.read.ensures ∙ c.in-Ok.is)
    c.part.ensures.bytes r.ensures.refused r.ensures.numbers c.put_number.ensures).1.1
