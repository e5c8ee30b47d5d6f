-- A top-up leaves the log.
use Rattle.std.proofs.Common.{sym}
use Rattle.account.specs.declared.Call.TheVariants.{TopUp}
use Rattle.account.proofs.Returns.{joined_applied, top_up_keeps}
use Rattle.account.proofs.Account.top_up.Goals as goal

pub returns : goal.returns
returns c =
    simp c.top_up_with-done.ensures
    (joined_applied c.args.self (TopUp c.args.n) c.args.self.log (sym (top_up_keeps c.args.self c.args.n)))
