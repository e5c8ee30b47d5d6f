-- The lists lent hold the section's codes and numbers.
use Rattle.std.proofs.Common.{◌≡◌, sym, ◌∙◌, ap, List, ℕ, ◌/◌, length, take}
use Rattle.tripfile.specs.Bodies.{calls_in, codes_of, numbers_of}
use Rattle.textlines.specs.Text.{exported_of, buffer_of}
use Rattle.conversion.proofs.Listing.{put_back, count_codes, count_numbers}
use Rattle.conversion.proofs.exporting.export_section.Goals as goal

pub returns : goal.returns
returns c =
    let s = c.args.section.now in
    let b = c.args.buf.now in
    let n = length s / 8 in
    let d = c.split_calls in
    let x = c.export in
    let cs : take n d.new.codes ≡ codes_of (calls_in s) =
    ap (take n) d.ensures.first ∙ put_back (codes_of (calls_in s)) _ n (sym (count_codes s)) in
    let ns : take n d.new.numbers ≡ numbers_of (calls_in s) =
    ap (take n) d.ensures.second ∙ put_back (numbers_of (calls_in s)) _ n (sym (count_numbers s)) in
    record {
      answer =
          x.ensures.answer
          ∙ (ap (λ (y : List ℕ). exported_of y (take n d.new.numbers) b) cs
          ∙ ap (λ (y : List ℕ). exported_of (codes_of (calls_in s)) y b) ns);
      buffer =
          x.ensures.buffer
          ∙ (ap (λ (y : List ℕ). buffer_of y (take n d.new.numbers) b) cs
          ∙ ap (λ (y : List ℕ). buffer_of (codes_of (calls_in s)) y b) ns);
    }
