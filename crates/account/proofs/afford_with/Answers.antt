-- An account that is not sound is refused with 0.
use Rattle.std.proofs.Common.{sym, ◌∙◌, ap}
use Rattle.account.specs.declared.Applied.{Applied}
use Rattle.account.specs.declared.Call.TheVariants.{Afford}
use Rattle.account.specs.Answers.{account_of}
use Rattle.account.proofs.Returns.{unsound}
use Rattle.account.proofs.afford_with.Goals as goal

pub returns-then-not-parts_fit : goal.returns-then-not-parts_fit
returns-then-not-parts_fit c =
    ap (λ (x : Applied). x.answer) (unsound (account_of c.args.state c.args.log.now) (Afford c.args.k) (sym c.parts_fit.ensures ∙ c.if-not-parts_fit.true))
