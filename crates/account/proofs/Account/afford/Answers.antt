-- Afford leaves the account.
use Rattle.account.specs.Answers.{applied}
use Rattle.account.proofs.Affords.{afford_keeps}
use Rattle.account.proofs.Account.afford.Goals as goal

pub returns : goal.returns
unfolding applied
returns c = simp (c.afford_with-answer.ensures, afford_keeps c.args.self c.args.k)
