-- The pass that is made and what is worked out from it are those of `Found.antt`, which says that they are what the
-- contract asks.
use Rattle.std.proofs.Common.{cond, ◌∙◌, ap}
use Rattle.tariff.specs.Plan.{plan_with}
use Rattle.account.specs.Whole.{opened}
use Rattle.numbers.specs.Numbers.{terms_from, account_numbers}
use Rattle.cards.specs.declared.Survey.{Survey}
use Rattle.cards.specs.Survey.{survey_of, changed}
use Rattle.meter.specs.declared.boxes.BoxReturned.{BoxReturned}
use Rattle.meter.specs.Boxes.{found_opens, found_opened}
use Rattle.meter.proofs.Found.{opened_code, opened_numbers, opened_cards}
use Rattle.meter.proofs.boxes.meter_box_open.Goals as goal

pub returns : goal.returns
returns c =
    let xs = c.args.account.now in
    let cs = c.args.cards.now in
    let ts = c.args.plan.now in
    let r = c.survey_all-found.ensures ∙ ap (λ (u : Survey). survey_of u cs) c.start_at.ensures in
    let e = c.open_found-done.ensures.returned ∙ ap (λ (u : Survey). found_opened xs u ts) r in (
      ap (λ (u : BoxReturned). u.code) e ∙ opened_code xs cs ts,
      c.open_found-done.ensures.numbers
          ∙ ap (λ (u : Survey). cond (found_opens xs u ts) (account_numbers (opened (plan_with (terms_from ts)))) xs) r
          ∙ opened_numbers xs cs ts,
      c.settle.ensures ∙ ap (λ (u : BoxReturned). changed u.change cs) e ∙ opened_cards xs cs ts,
    )
