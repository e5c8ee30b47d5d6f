-- Afford answers the greatest use that is accepted, where the hotspot is anywhere.
use Rattle.std.proofs.Common.{sym, ◌∙◌, ap}
use Rattle.account.specs.declared.Applied.{Applied}
use Rattle.account.specs.Answers.{account_of}
use Rattle.account.proofs.Parts.{steady}
use Rattle.account.proofs.Affords.{afford_nowhere, afford_yes}
use Rattle.account.proofs.afford_sound.Goals as goal

pub returns-then-not-placed : goal.returns-then-not-placed
returns-then-not-placed c =
    ap (λ (x : Applied). x.answer) (afford_nowhere (account_of c.args.state c.args.log.now) c.args.k c.requires (sym c.placed.ensures ∙ c.if-not-placed.true))

pub most_of-requires : goal.most_of-requires
most_of-requires c =
    (steady (account_of c.args.state c.args.log.now) c.requires, sym c.placed.ensures ∙ c.if-not-placed.false)

pub returns : goal.returns
returns c =
    ap (λ (x : Applied). x.answer)
    (afford_yes (account_of c.args.state c.args.log.now) c.args.k c.requires c.most_of.result (sym c.placed.ensures ∙ c.if-not-placed.false) c.most_of.ensures)
