-- Each answer is that of the first reason that holds.
use Rattle.std.proofs.Common.{sym, ◌∙◌, ap, arith}
use Rattle.state.proofs.Verdicts.{few}
use Rattle.account.specs.Answers.{account_of, applied_state}
use Rattle.account.proofs.Parts.{credit_most, paid_most}
use Rattle.account.proofs.Returns.{topped_7, topped_8, topped_yes}
use Rattle.account.proofs.top_up_sound.Goals as goal

pub returns-then-not-within : goal.returns-then-not-within
returns-then-not-within c =
    c.declined.ensures
    ∙ ap applied_state (topped_7 (account_of c.args.state c.args.log.now) c.requires c.args.n (sym c.within.ensures ∙ c.if-not-within.true))

pub overflow_add-state : goal.overflow_add-state
overflow_add-state c =
    omega (arith, paid_most (account_of c.args.state c.args.log.now) c.requires, few c.args.n 10000000 (sym c.within.ensures ∙ c.if-not-within.false))

pub returns-then-state-n-gt1000000000 : goal.returns-then-state-n-gt1000000000
returns-then-state-n-gt1000000000 c =
    c.declined-then-state-n-gt1000000000.ensures
    ∙ ap applied_state (topped_8 (account_of c.args.state c.args.log.now) c.requires c.args.n (sym c.within.ensures ∙ c.if-not-within.false) (omega (arith, c.if-state-n-gt1000000000.true)))

pub topped_by-requires : goal.topped_by-requires
topped_by-requires c =
    let h = credit_most (account_of c.args.state c.args.log.now) c.requires in
    (omega (arith, c.if-state-n-gt1000000000.false), omega (arith, c.if-state-n-gt1000000000.false))

pub returns : goal.returns
returns c =
    simp (c.done.ensures, c.topped_by.ensures)
    (ap applied_state (topped_yes (account_of c.args.state c.args.log.now) c.requires c.args.n (sym c.within.ensures ∙ c.if-not-within.false) (omega (arith, c.if-state-n-gt1000000000.false))))
