-- The text that an export answers fits in the buffer. Assumes nothing.
use Rattle.std.proofs.Common.{◌≡◌, ℕ, ◌≤◌, List, length, replicate, arith, refl, sym}
use Rattle.std.proofs.lemmas.List.{length-replicate}
use Rattle.std.proofs.lemmas.Result.{IfOk-at_ok}
use Rattle.tripfile.specs.declared.Trip.{Trip}
use Rattle.tripfile.specs.Bodies.{paired, codes_of, numbers_of}
use Rattle.tripfile.specs.Reading.{read_of, calls_of}
use Rattle.tripfile.specs.Writing.{write_answer}
use Rattle.textlines.specs.Text.{text_of, export_verdict, exported_of}
use Rattle.textlines.proofs.Putting.{exports}
use Rattle.conversion.specs.Conversion.{told_text, export_by, export_of}
use Rattle.std.specs.Prelude.{Result, Ok, Err, ⊤}
use Rattle.tariff.specs.declared.Refusal.{Refusal}

text_fits : (cs ns buf : List ℕ) (k : ℕ) → told_text (exported_of cs ns buf) ≡ Ok k → k ≤ length buf
unfolding exported_of
text_fits cs ns buf k h = go (export_verdict cs ns (length buf)) refl h
  where
    go : (v : Result ⊤ Refusal) → export_verdict cs ns (length buf) ≡ v
        → told_text (write_answer v (length (text_of (paired cs ns)))) ≡ Ok k → k ≤ length buf
    go (Ok tt) e g =
        let z : length (text_of (paired cs ns)) ≡ k = IfOk-at_ok (λ (m : ℕ). length (text_of (paired cs ns)) ≡ m) g refl in
        omega (arith, (exports cs ns (length buf) e).fits)
    go (Err r) e g = cc

pub fits : (f buf : List ℕ) (k : ℕ) → export_of f buf ≡ Ok k → k ≤ length buf
unfolding export_of
fits f buf k h = go (read_of f) h
  where
    go : (x : Result Trip Refusal) → export_by x (calls_of f) buf ≡ Ok k → k ≤ length buf
    go (Ok t) g = text_fits (codes_of (calls_of f)) (numbers_of (calls_of f)) buf k g
    go (Err r) g = cc

-- The same of a buffer of n zeros.
pub fits_zeros : (f : List ℕ) (n k : ℕ) → Ok k ≡ export_of f (replicate n 0) → k ≤ n
fits_zeros f n k h = omega (arith, fits f (replicate n 0) k (sym h), length-replicate {A = ℕ} n 0)
