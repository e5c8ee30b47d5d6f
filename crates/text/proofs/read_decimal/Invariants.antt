-- Reading on from the value so far comes to the same number, held, and the digits so far decide with the rest.
use Rattle.std.proofs.Common.{◌≡◌, ◌≤◌, ◌&&◌, drop}
use Rattle.text.specs.Claims.{read_on}
use Rattle.text.specs.Reading.{all_digits}
use Rattle.text.proofs.Reading.{held}
use Rattle.text.proofs.read_decimal.Given as goal

abbrev pub invariant-loop-d : goal.invariant-loop-d
invariant-loop-d l = record {
  within : l.value ≤ 4294967296;
  value : held (read_on l.value (drop l.d-index l.digits)) ≡ held (read_on 0 l.digits);
  right : (l.right && all_digits (drop l.d-index l.digits)) ≡ all_digits l.digits;
}
