use Rattle.numbers.proofs.Back.{account_back}
use Rattle.numbers.proofs.claims.account_of_its_numbers.Goals as goal

pub returns : goal.returns
returns c = account_back
