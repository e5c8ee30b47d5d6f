-- A registration leaves the log.
use Rattle.std.proofs.Common.{sym}
use Rattle.account.specs.declared.Call.TheVariants.{Register}
use Rattle.account.proofs.Returns.{joined_applied, register_keeps}
use Rattle.account.proofs.Account.register.Goals as goal

pub returns : goal.returns
returns c =
    simp c.register_with-done.ensures
    (joined_applied c.args.self (Register c.args.p) c.args.self.log (sym (register_keeps c.args.self c.args.p)))
