use Rattle.std.proofs.Common.{◌≡◌, ◌∙◌, ◌-◌, ap, length, arith, drop, ℕ}
use Rattle.numbers.specs.Numbers.{rest_part}
use Rattle.numbers.proofs.rest_of.Goals as goal

pub returns : goal.returns
unfolding rest_part
returns c =
    let e : length c.args.account.now - 50 ≡ 1599 = omega arith in
    let k = rw c.unwrap.ensures at c.last_chunk.ensures.cases in
    k.1.same ∙ ap (λ (i : ℕ). drop i c.args.account.now) e
