use Rattle.std.proofs.Common.{◌≡◌, sym, ◌∙◌, ap, rules, length}
use Rattle.numbers.proofs.Back.{account_length}
use Rattle.account.specs.declared.Account.{Account}
use Rattle.account.specs.declared.Call.TheVariants.{Afford}
use Rattle.account.specs.Answers.{applied}
use Rattle.meter.proofs.Held.{account_again, no_account, answered}
use Rattle.meter.proofs.calls.afford_on.Goals as goal

pub returns-then-not-held : goal.returns-then-not-held
returns-then-not-held c = (no_account c.args.account.now (Afford c.args.k) (sym c.held.ensures ∙ c.if-not-held.true)).0

pub state_held-state-requires : goal.state_held-state-requires
state_held-state-requires c = account_length c.args.account.now (sym c.held.ensures ∙ c.if-not-held.false)

pub unwrap-requires : goal.unwrap-requires
unwrap-requires c =
    let n : length c.args.account.now ≡ 1649 = account_length c.args.account.now (sym c.held.ensures ∙ c.if-not-held.false) in
    search rules

pub returns : goal.returns
returns c =
    let xs = c.args.account.now in
    let k = rw c.unwrap.ensures at c.first_chunk.ensures.cases in
    answered xs (Afford c.args.k) c.afford_with.result (sym c.held.ensures ∙ c.if-not-held.false)
    (c.afford_with.ensures
    ∙ ap (λ (x : Account). (applied x (Afford c.args.k)).answer) (account_again xs _ _ c.state_held-state.ensures k.same))
