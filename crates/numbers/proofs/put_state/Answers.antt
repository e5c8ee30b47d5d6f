use Rattle.numbers.proofs.Back.{state_laid}
use Rattle.numbers.proofs.put_state.Goals as goal

pub returns : goal.returns
returns c =
    state_laid c.args.account.now c.args.a _ _ _ _ _ _ _ _ _ _ c.requires.0
    c.front_of.ensures c.meters_numbers.ensures c.quota_numbers.ensures c.numbers.ensures c.end_of.ensures
    c.put_numbers.ensures c.put_numbers-2.ensures c.put_numbers-3.ensures c.put_numbers-4.ensures c.put_numbers-5.ensures
