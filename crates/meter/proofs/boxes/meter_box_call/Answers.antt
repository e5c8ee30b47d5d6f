-- The pass that is made and what is worked out from it are those of `Found.antt`, which says that they are what the
-- contract asks.
use Rattle.std.proofs.Common.{cond, ◌∙◌, ap}
use Rattle.cards.specs.declared.Survey.{Survey}
use Rattle.cards.specs.Survey.{survey_of, changed}
use Rattle.meter.specs.declared.boxes.BoxReturned.{BoxReturned}
use Rattle.meter.specs.Answers.{answer_laid}
use Rattle.meter.specs.Boxes.{box_call, is_box_call, found_answer, found_numbers, found_returned}
use Rattle.meter.proofs.Found.{called_code, called_numbers, called_cards, called_laid}
use Rattle.meter.proofs.boxes.meter_box_call.Goals as goal

pub returns : goal.returns
returns c =
    let a = c.args in
    let xs = a.account.now in
    let cs = a.cards.now in
    let ys = a.answer.now in
    let d = box_call a.call a.card a.which a.n in
    let t = is_box_call a.call a.which ys in
    let r = c.survey_all-found.ensures ∙ ap (λ (u : Survey). survey_of u cs) c.start_meant.ensures in
    let e = c.return_found-done.ensures.returned ∙ ap (λ (u : Survey). found_returned xs u d t) r in (
      ap (λ (u : BoxReturned). u.code) e ∙ called_code xs cs d t,
      c.return_found-done.ensures.numbers ∙ ap (λ (u : Survey). cond t (found_numbers xs u d) xs) r
          ∙ called_numbers xs cs d t,
      c.settle.ensures ∙ ap (λ (u : BoxReturned). changed u.change cs) e ∙ called_cards xs cs d t,
      c.return_found-done.ensures.answered
          ∙ ap (λ (u : Survey). cond t (answer_laid (found_answer xs u d) ys) ys) r ∙ called_laid xs cs d t ys,
    )
