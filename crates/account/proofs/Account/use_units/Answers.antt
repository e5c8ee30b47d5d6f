-- A use leaves the log.
use Rattle.std.proofs.Common.{sym}
use Rattle.account.specs.declared.Call.TheVariants.{Use}
use Rattle.account.proofs.Returns.{joined_applied, use_keeps}
use Rattle.account.proofs.Account.use_units.Goals as goal

pub returns : goal.returns
returns c =
    simp c.use_with-done.ensures
    (joined_applied c.args.self (Use c.args.k c.args.n) c.args.self.log (sym (use_keeps c.args.self c.args.k c.args.n)))
