use Rattle.numbers.proofs.Back.{numbers_back}
use Rattle.numbers.proofs.claims.numbers_of_their_account.Goals as goal

pub returns : goal.returns
returns c = numbers_back
