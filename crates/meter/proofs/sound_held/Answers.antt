use Rattle.std.proofs.Common.{◌≡◌, sym, ◌∙◌, ap, rules, length}
use Rattle.numbers.proofs.Back.{account_length}
use Rattle.account.specs.Whole.{sound}
use Rattle.meter.proofs.Held.{account_again, sound_by}
use Rattle.meter.proofs.sound_held.Goals as goal

pub state_held-state-requires : goal.state_held-state-requires
state_held-state-requires c = account_length c.args.account.now (sym c.held.ensures ∙ c.if-not-held.false)

pub unwrap-requires : goal.unwrap-requires
unwrap-requires c =
    let n : length c.args.account.now ≡ 1649 = account_length c.args.account.now (sym c.held.ensures ∙ c.if-not-held.false) in
    search rules

pub returns : goal.returns
returns c =
    let xs = c.args.account.now in
    let k = rw c.unwrap.ensures at c.first_chunk.ensures.cases in
    sound_by xs c.parts_fit.result (sym c.held.ensures ∙ c.if-not-held.false)
    (c.parts_fit.ensures ∙ ap sound (account_again xs _ _ c.state_held-state.ensures k.same))
