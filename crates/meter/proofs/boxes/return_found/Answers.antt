use Rattle.std.proofs.Common.{◌≡◌, ℕ, List, true, sym, ◌∙◌, ap}
use Rattle.cards.specs.declared.Survey.{Survey}
use Rattle.cards.specs.declared.Change.{Change}
use Rattle.family.specs.declared.BoxCall.{BoxCall}
use Rattle.family.specs.Seen.{card_place, no_change}
use Rattle.meter.specs.declared.boxes.BoxAnswered.{BoxAnswered}
use Rattle.meter.specs.Answers.{answer_code}
use Rattle.meter.specs.Boxes.{is_box_call, found_answer, found_change, found_returned}
use Rattle.meter.proofs.Found.{found_room}
use Rattle.meter.proofs.boxes.return_found.Goals as goal

-- what a call answers and makes of the cards, by the call that is meant
made : (xs : List ℕ) (s : Survey) (c d : BoxCall) (x : BoxAnswered)
    → x ≡ record { answer = found_answer xs s c; change = found_change xs s c } → c ≡ d
    → x ≡ record { answer = found_answer xs s d; change = found_change xs s d }
made xs s c d x e f =
    e ∙ ap (λ (y : BoxCall). record { answer = found_answer xs s y; change = found_change xs s y }) f

pub returns-then-not-is_call-clause-returned : goal.returns-then-not-is_call-clause-returned
unfolding found_returned
returns-then-not-is_call-clause-returned c =
    let e = c.unchanged.ensures
    ∙ ap (λ (i : ℕ). no_change i c.args.s) (c.place_of.ensures ∙ ap card_place c.call_meant-c.ensures) in
    rw (sym c.is_call.ensures ∙ c.if-not-is_call.true) (ap (λ (x : Change). record { code = 1001; change = x }) e)

pub put_answer-requires : goal.put_answer-requires
put_answer-requires c =
    let a = c.args in
    let m = made a.account.now a.s _ _ _ c.call_found-x.ensures.answer c.call_meant-c.ensures in
    rw (ap (λ (x : BoxAnswered). x.answer) m)
    (found_room a.account.now a.s a.call a.card a.which a.n a.answer.now
    (sym c.is_call.ensures ∙ c.if-not-is_call.false))

pub returns-clause-returned : goal.returns-clause-returned
unfolding found_returned
returns-clause-returned c =
    let a = c.args in
    let h : is_box_call a.call a.which a.answer.now ≡ true = sym c.is_call.ensures ∙ c.if-not-is_call.false in
    let m = made a.account.now a.s _ _ _ c.call_found-x.ensures.answer c.call_meant-c.ensures in
    rw h (λ j. record {
      code = (c.answer_code.ensures ∙ ap (λ (x : BoxAnswered). answer_code x.answer) m) j;
      change = ap (λ (x : BoxAnswered). x.change) m j;
    })
