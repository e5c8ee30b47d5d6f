-- Which words of the section the reader hands out. Assumes nothing.
use mathlib.Core.Path.{◌≡◌}
use mathlib.Core.List.{List}
use Prim.Native.Nat.{ℕ, ◌+◌, ◌*◌, ◌≤◌, ◌<◌}
use native.Mathlib.Omega.{arith}
use lib.ListN.{length, drop}
use lib.Seq.{get_or-drop}
use borrow.Author.Tests.{le-leb, lt-leb}
use Rattle.words.specs.Words.{word}
use Rattle.reader.specs.Calls.{decoded, position_after}
use Rattle.std.proofs.Common.{Some, None}

word_from : (s : List ℕ) (m i : ℕ) → word (drop (4 * m) s) i ≡ word s (m + i)
word_from s m i =
    let e₀ : 4 * m + 4 * i ≡ 4 * (m + i) = omega arith in
    let e₁ : 4 * m + (4 * i + 1) ≡ 4 * (m + i) + 1 = omega arith in
    let e₂ : 4 * m + (4 * i + 2) ≡ 4 * (m + i) + 2 = omega arith in
    let e₃ : 4 * m + (4 * i + 3) ≡ 4 * (m + i) + 3 = omega arith in
    let d = 4 * m in
    rw (get_or-drop d s (4 * i) 0, get_or-drop d s (4 * i + 1) 0, get_or-drop d s (4 * i + 2) 0, get_or-drop d s (4 * i + 3) 0, e₀, e₁, e₂, e₃)

-- call i of a section has the words 2 i and 2 i + 1
pub decoded_call : (s : List ℕ) (i : ℕ) → 8 * i + 8 ≤ length s → decoded s (8 * i) ≡ Some (record { code = word s (2 * i); number = word s (2 * i + 1) })
decoded_call s i h =
    let e : 8 * i ≡ 4 * (2 * i) = omega arith in
    let z : 2 * i + 0 ≡ 2 * i = omega arith in
    let w₀ : word (drop (4 * (2 * i)) s) 0 ≡ word s (2 * i + 0) = word_from s (2 * i) 0 in
    let w₁ : word (drop (4 * (2 * i)) s) 1 ≡ word s (2 * i + 1) = word_from s (2 * i) 1 in
    rw (le-leb (8 * i + 8) (length s) h, e, w₀, w₁, z)

pub decoded_end : (s : List ℕ) (at : ℕ) → length s < at + 8 → decoded s at ≡ None
decoded_end s at h = rw (lt-leb (at + 8) (length s) h)

pub after_call : (s : List ℕ) (at : ℕ) → at + 8 ≤ length s → position_after s at ≡ at + 8
after_call s at h = rw (le-leb (at + 8) (length s) h)

pub after_end : (s : List ℕ) (at : ℕ) → length s < at + 8 → position_after s at ≡ at
after_end s at h = rw (lt-leb (at + 8) (length s) h)
