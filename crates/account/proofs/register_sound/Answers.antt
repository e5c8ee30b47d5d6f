-- A registration is accepted, and the credit is bounded by what was paid in.
use Rattle.std.proofs.Common.{ap, arith}
use Rattle.account.specs.Answers.{account_of, applied_state}
use Rattle.account.proofs.Parts.{credit_most, paid_most}
use Rattle.account.proofs.Returns.{registered_yes}
use Rattle.account.proofs.register_sound.Goals as goal

pub registered_at-requires : goal.registered_at-requires
registered_at-requires c =
    let a = account_of c.args.state c.args.log.now in
    omega (arith, credit_most a c.requires, paid_most a c.requires)

pub returns : goal.returns
returns c =
    simp (c.done.ensures, c.registered_at.ensures)
    (ap applied_state (registered_yes (account_of c.args.state c.args.log.now) c.requires c.args.p))
