-- Heading, number and line feed are put one after the other.
use Rattle.std.proofs.Common.{◌≡◌, ◌∙◌, ap, rules, List, [], ◌∷◌, ◌++◌, append_assoc, ℕ, ◌+◌, arith, length}
use Rattle.tripfile.specs.Bodies.{call}
use Rattle.text.specs.Text.{decimal, placed}
use Rattle.text.proofs.Placing.{put_next}
use Rattle.textlines.specs.Line.{line}
use Rattle.textlines.proofs.OneLine.{line_long}
use Rattle.textlines.proofs.line.put_line.Goals as goal

pub put_bytes-figure-requires : goal.put_bytes-figure-requires
put_bytes-figure-requires c =
    let a = c.args in
    let h = c.heading_of.ensures in
    omega (arith, ap length h, line_long (call a.code a.number), c.requires)

pub put_decimal-feed-requires : goal.put_decimal-feed-requires
put_decimal-feed-requires c =
    let n : c.from.result ≡ c.args.number = search rules in
    let d = ap (λ (k : ℕ). length (decimal k)) n in
    let a = c.args in
    let h = c.heading_of.ensures in
    omega (arith, d, ap length h, c.put_bytes-figure.ensures.end, line_long (call a.code a.number), c.requires)

pub put_bytes-requires : goal.put_bytes-requires
put_bytes-requires c =
    let n : c.from.result ≡ c.args.number = search rules in
    let d = ap (λ (k : ℕ). length (decimal k)) n in
    let a = c.args in
    let one = c.put_bytes-figure.ensures.end in
    let two = c.put_decimal-feed.ensures.end in
    omega (arith, d, ap length c.heading_of.ensures, one, two, line_long (call a.code a.number), c.requires)

pub returns : goal.returns
unfolding line
returns c =
    let n : c.from.result ≡ c.args.number = search rules in
    let d = ap (λ (k : ℕ). length (decimal k)) n in
    let h = c.heading_of.ensures in
    let one = c.put_bytes-figure.ensures in
    let two = c.put_decimal-feed.ensures in
    let three = c.put_bytes.ensures in
    let l = line_long (call c.args.code c.args.number) in
    let o =
    put_next _ _ _ _ _ _ _ _ (record { buffer = one.buffer; end = one.end })
    (omega (arith, ap length h, one.end, c.requires)) two.buffer two.end in
    let p =
    put_next _ _ _ _ _ _ _ _ o (omega (arith, d, ap length h, one.end, two.end, c.requires)) three.buffer three.end in
    let e =
    append_assoc (c.heading_of.result.now) (decimal c.from.result) (10 ∷ [])
    ∙ ap (λ (k : ℕ). c.heading_of.result.now ++ (decimal k ++ (10 ∷ []))) n
    ∙ ap (λ (x : List ℕ). x ++ (decimal c.args.number ++ (10 ∷ []))) h in
    record {
      end = p.end ∙ ap (λ (x : List ℕ). c.args.at + length x) e;
      buffer = p.buffer ∙ ap (placed c.args.buf.now c.args.at) e;
    }
