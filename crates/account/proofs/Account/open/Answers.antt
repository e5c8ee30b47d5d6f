-- All but the log, and the empty log, are what Open hands out.
use Rattle.account.proofs.Returns.{opened_whole}
use Rattle.account.proofs.Account.open.Goals as goal

pub returns : goal.returns
returns c = opened_whole _ c.open_with-opened.result c.log_empty.result c.open_with-opened.ensures c.log_empty.ensures
