-- The day is logged first; what the state makes of the log has today in it.
use Rattle.std.proofs.Common.{◌∙◌, ap, arith}
use Rattle.presence.proofs.Numbers.{days_joined}
use Rattle.account.specs.Answers.{account_of, applied, applied_state}
use Rattle.account.proofs.Parts.{turns}
use Rattle.account.proofs.Returns.{log_of, next_9, next_yes}
use Rattle.account.proofs.next_day_sound.Goals as goal

pub returns-then-state-ge3833 : goal.returns-then-state-ge3833
unfolding applied
returns-then-state-ge3833 c =
    let e = next_9 (account_of c.args.state c.args.log.now) c.requires (omega (arith, c.if-state-ge3833.true)) in
    record { answer = c.declined.ensures ∙ ap applied_state e; shifted = ap log_of e }

pub next_from-requires : goal.next_from-requires
next_from-requires c =
    rw (c.push.ensures, days_joined c.args.state.today c.args.log.now) (turns (account_of c.args.state c.args.log.now) c.requires (omega (arith, c.if-state-ge3833.false)))

pub returns : goal.returns
unfolding applied
returns c =
    let e = next_yes (account_of c.args.state c.args.log.now) c.requires (omega (arith, c.if-state-ge3833.false)) in
    record {
      answer = rw (c.done.ensures, c.next_from.ensures, c.push.ensures, days_joined c.args.state.today c.args.log.now) (ap applied_state e);
      shifted = c.push.ensures ∙ ap log_of e;
    }
