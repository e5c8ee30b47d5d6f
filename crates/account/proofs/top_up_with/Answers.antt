-- An account that is not sound is refused with 0, and stays.
use Rattle.std.proofs.Common.{sym, ◌∙◌, ap}
use Rattle.account.specs.declared.Call.TheVariants.{TopUp}
use Rattle.account.specs.Answers.{account_of, applied_state}
use Rattle.account.proofs.Returns.{unsound}
use Rattle.account.proofs.top_up_with.Goals as goal

pub returns-then-not-parts_fit : goal.returns-then-not-parts_fit
returns-then-not-parts_fit c =
    c.declined.ensures
    ∙ ap applied_state (unsound (account_of c.args.state c.args.log.now) (TopUp c.args.n) (sym c.parts_fit.ensures ∙ c.if-not-parts_fit.true))
