-- A line that is not longer than its heading is not framed; a longer one is, if its two ends are right.
use Rattle.std.proofs.Common.{◌≡◌, sym, ◌∙◌, ap, ℕ, ◌-◌, arith, length, take, get_or}
use Rattle.std.proofs.Math.Dec.{eqb}
use Rattle.std.proofs.lemmas.Bool.{eqb-true, eq-eqb}
use Rattle.std.proofs.lemmas.Bool.Decides.{Decides-eqb}
use Rattle.std.proofs.lemmas.Slice.Eq.{slice_eq-Decides}
use Rattle.tariff.proofs.Tests.{and_left, and_right, and_both}
use Rattle.textlines.proofs.OneLine.{framed_yes, framed_long, framed_head, framed_last}
use Rattle.textlines.specs.Line.{heading}
use Rattle.textlines.proofs.line.is_framed.Goals as goal

pub returns-then-n-a : goal.returns-then-n-a
returns-then-n-a c =
    let s = c.args.s.now in
    let k = c.args.code in
    (λ h. cc, λ h. absurd (omega (arith, framed_long s k h, ap length c.heading_of-heading.ensures)))

pub returns : goal.returns
returns c =
    let s = c.args.s.now in
    let k = c.args.code in
    let h = c.heading_of-heading in
    let a : length h.result.now ≡ length (heading k) = ap length h.ensures in
    let begun = slice_eq-Decides Decides-eqb _ _ _ c.eq.ensures in
    let last = eqb (get_or s (length s - 1) 0) 10 in (
      (λ y.
          framed_yes s k (omega arith)
          (ap (λ (n : ℕ). take n s) (sym a) ∙ (begun.0 (and_left c.eq.result last y) ∙ h.ensures))
          (eqb-true (get_or s (length s - 1) 0) 10 (and_right c.eq.result last y))),
      (λ y.
          and_both c.eq.result last
          (begun.1 (ap (λ (n : ℕ). take n s) a ∙ (framed_head s k y ∙ sym h.ensures)))
          (eq-eqb (get_or s (length s - 1) 0) 10 (framed_last s k y))),
    )
