-- An account that is not sound is refused with 0, and stays.
use Rattle.std.proofs.Common.{sym, ◌∙◌, ap}
use Rattle.account.specs.declared.Call.TheVariants.{NextDay}
use Rattle.account.specs.Answers.{account_of, applied, applied_state}
use Rattle.account.proofs.Returns.{log_of, unsound}
use Rattle.account.proofs.next_day_with.Goals as goal

pub returns-then-not-parts_fit : goal.returns-then-not-parts_fit
unfolding applied
returns-then-not-parts_fit c =
    let e = unsound (account_of c.args.state c.args.log.now) NextDay (sym c.parts_fit.ensures ∙ c.if-not-parts_fit.true) in
    record { answer = c.declined.ensures ∙ ap applied_state e; shifted = ap log_of e }
