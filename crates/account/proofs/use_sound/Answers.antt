-- A use on a sound account is the state's own.
use Rattle.std.proofs.Common.{◌∙◌, ap}
use Rattle.account.specs.Answers.{account_of, applied_state}
use Rattle.account.proofs.Parts.{steady}
use Rattle.account.proofs.Returns.{use_sound}
use Rattle.account.proofs.use_sound.Goals as goal

pub use_of-requires : goal.use_of-requires
use_of-requires c = steady (account_of c.args.state c.args.log.now) c.requires

pub returns : goal.returns
returns c = c.use_of.ensures ∙ ap applied_state (use_sound (account_of c.args.state c.args.log.now) c.args.k c.args.n c.requires)
