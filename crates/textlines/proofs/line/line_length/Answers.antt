-- A heading has at most 9 bytes, and a number at most 20 digits.
use Rattle.std.proofs.Common.{◌≡◌, ◌∙◌, ℕ, ap, length, rules, arith}
use Rattle.tripfile.specs.Bodies.{call}
use Rattle.text.specs.Text.{decimal}
use Rattle.text.proofs.Decimals.{u64_digits}
use Rattle.textlines.proofs.OneLine.{heading_few, line_long}
use Rattle.textlines.proofs.line.line_length.Goals as goal

pub overflow_add-result : goal.overflow_add-result
overflow_add-result c =
    let n : c.from.result ≡ c.args.number = search rules in
    let d = c.decimal_length.ensures ∙ ap (λ (k : ℕ). length (decimal k)) n in
    let h = ap length c.heading_of.ensures in
    omega (arith, d, h, heading_few c.args.code, u64_digits c.args.number (omega arith))

pub overflow_add-result-2 : goal.overflow_add-result-2
overflow_add-result-2 c =
    let n : c.from.result ≡ c.args.number = search rules in
    let d = c.decimal_length.ensures ∙ ap (λ (k : ℕ). length (decimal k)) n in
    let h = ap length c.heading_of.ensures in
    omega (arith, d, h, heading_few c.args.code, u64_digits c.args.number (omega arith))

pub returns-clause-few : goal.returns-clause-few
returns-clause-few c =
    let n : c.from.result ≡ c.args.number = search rules in
    let d = c.decimal_length.ensures ∙ ap (λ (k : ℕ). length (decimal k)) n in
    let h = ap length c.heading_of.ensures in
    omega (arith, d, h, heading_few c.args.code, u64_digits c.args.number (omega arith))

pub returns-clause-counts : goal.returns-clause-counts
returns-clause-counts c =
    let n : c.from.result ≡ c.args.number = search rules in
    let d = c.decimal_length.ensures ∙ ap (λ (k : ℕ). length (decimal k)) n in
    let h = ap length c.heading_of.ensures in
    omega (arith, d, h, line_long (call c.args.code c.args.number))
