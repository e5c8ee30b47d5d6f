-- Only a day change touches the log.
use Rattle.std.proofs.Common.{sym}
use Rattle.account.specs.Answers.{account_of}
use Rattle.account.proofs.Returns.{register_keeps, use_keeps, top_up_keeps}
use Rattle.account.proofs.Affords.{log_afforded, afford_answered}
use Rattle.account.proofs.call_sound.Goals as goal

pub returns-in-Register-clause-shifted : goal.returns-in-Register-clause-shifted
returns-in-Register-clause-shifted c = simp c.in-Register.is (sym (register_keeps (account_of c.args.state c.args.log.now) _))

pub returns-in-Use-clause-shifted : goal.returns-in-Use-clause-shifted
returns-in-Use-clause-shifted c = simp c.in-Use.is (sym (use_keeps (account_of c.args.state c.args.log.now) _ _))

pub returns-in-TopUp-clause-shifted : goal.returns-in-TopUp-clause-shifted
returns-in-TopUp-clause-shifted c = simp c.in-TopUp.is (sym (top_up_keeps (account_of c.args.state c.args.log.now) _))

pub returns-in-Afford-clause-answer : goal.returns-in-Afford-clause-answer
returns-in-Afford-clause-answer c =
    simp (c.afford_sound.ensures, c.in-Afford.is) (afford_answered (account_of c.args.state c.args.log.now) _)

pub returns-in-Afford-clause-shifted : goal.returns-in-Afford-clause-shifted
returns-in-Afford-clause-shifted c = simp c.in-Afford.is (sym (log_afforded (account_of c.args.state c.args.log.now) _))
