-- All but the log, and the log, make the account again.
use Rattle.std.proofs.Common.{ap}
use Rattle.account.specs.declared.Applied.{Applied}
use Rattle.account.proofs.Returns.{joined_applied}
use Rattle.account.proofs.Account.make.Goals as goal

pub returns-clause-after : goal.returns-clause-after
returns-clause-after c =
    simp c.call_with-done.ensures.answer
    (ap (λ (x : Applied). x.account) (joined_applied c.args.self.now c.args.c _ c.call_with-done.ensures.shifted))
