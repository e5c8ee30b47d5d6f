-- All but the log, and the log, make the account again.
use Rattle.account.specs.declared.Call.TheVariants.{NextDay}
use Rattle.account.proofs.Returns.{joined_applied}
use Rattle.account.proofs.Account.next_day.Goals as goal

pub returns : goal.returns
returns c =
    simp c.next_day_with-done.ensures.answer
    (joined_applied c.args.self NextDay _ c.next_day_with-done.ensures.shifted)
