-- The file that an import answers fits in the buffer. Assumes nothing.
use Rattle.std.proofs.Common.{◌≡◌, ℕ, ◌≤◌, List, length, replicate, arith, refl, sym, ap}
use Rattle.std.proofs.lemmas.List.{length-replicate}
use Rattle.tariff.specs.declared.Plan.{Plan}
use Rattle.tariff.specs.Tests.{is_accepted}
use Rattle.tripfile.specs.Bodies.{codes_of, numbers_of}
use Rattle.tripfile.specs.Writing.{file_size, write_verdict, write_answer, written_of}
use Rattle.tripfile.proofs.Accepted.{writes}
use Rattle.textlines.specs.declared.TextError.{TextError}
use Rattle.std.proofs.lemmas.Result.{IfOk-at_ok}
use Rattle.textlines.specs.Text.{calls_of}
use Rattle.conversion.specs.Conversion.{told_file, lines_read, import_by, import_of}
use Rattle.std.specs.Prelude.{Result, Ok, Err, ⊤}
use Rattle.tariff.specs.declared.Refusal.{Refusal}

file_fits : (p : Plan) (cs ns buf : List ℕ) (k : ℕ) → told_file (written_of p cs ns buf) ≡ Ok k
    → k ≤ length buf
unfolding written_of
file_fits p cs ns buf k h = go (write_verdict p cs ns (length buf)) refl h
  where
    go : (v : Result ⊤ Refusal) → write_verdict p cs ns (length buf) ≡ v
        → told_file (write_answer v (file_size (length cs))) ≡ Ok k → k ≤ length buf
    go (Ok tt) e g =
        let z : file_size (length cs) ≡ k = IfOk-at_ok (λ (m : ℕ). file_size (length cs) ≡ m) g refl in
        omega (arith, (writes p cs ns (length buf) (ap is_accepted e)).fits)
    go (Err r) e g = cc

pub fits : (p : Plan) (t buf : List ℕ) (k : ℕ) → import_of p t buf ≡ Ok k → k ≤ length buf
unfolding import_of
fits p t buf k h = go (lines_read t) h
  where
    go : (x : Result ℕ TextError) → import_by x p (calls_of t) buf ≡ Ok k → k ≤ length buf
    go (Ok n) g = file_fits p (codes_of (calls_of t)) (numbers_of (calls_of t)) buf k g
    go (Err e) g = cc

-- The same of a buffer of n zeros.
pub fits_zeros : (p : Plan) (t : List ℕ) (n k : ℕ) → Ok k ≡ import_of p t (replicate n 0) → k ≤ n
fits_zeros p t n k h = omega (arith, fits p t (replicate n 0) k (sym h), length-replicate {A = ℕ} n 0)
