-- The numbers of a log moved on by one day. Assumes nothing.
use Prim.Native.Nat.{ℕ}
use mathlib.Core.Path.{◌≡◌, sym, ◌∙◌}
use mathlib.Core.List.{List, ◌++◌}
use native.Mathlib.Omega.{arith}
use lib.ListN.{length, take, drop}
use lib.Seq.{paste, take_all, drop-append_seam, length-take-le}
use Rattle.std.proofs.lemmas.List.Edits.{length-paste, take-paste}

-- what is written 13 places further on drops the last 13 numbers
pub shifted : (xs : List ℕ) → length xs ≡ 1599 → drop 13 (paste xs 13 xs 1586) ≡ take 1586 xs
shifted xs e =
    let whole : paste xs 13 xs 1586 ≡ take 13 xs ++ take 1586 xs
    = sym (take_all 1599 (paste xs 13 xs 1586) (omega (arith, length-paste xs 13 xs 1586 (omega arith) (omega arith))))
    ∙ take-paste xs 13 xs 1586 (omega arith) (omega arith) in
    let front : length (take 13 xs) ≡ 13 = length-take-le 13 xs (omega arith) in
    let seam : drop (length (take 13 xs)) (take 13 xs ++ take 1586 xs) ≡ take 1586 xs = drop-append_seam (take 13 xs) (take 1586 xs) in
    rw whole (rw front at seam)
