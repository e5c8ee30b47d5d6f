-- A reader that is asked again and again hands out the section's calls, in order, and then none. Assumes nothing.
use mathlib.Core.Path.{◌≡◌, refl, ◌∙◌, ap}
use mathlib.Core.List.{List, [], ◌∷◌, ◌++◌}
use Prim.Native.Nat.{ℕ, zero, suc, ◌+◌, ◌*◌, ◌/◌, ◌≤◌, ◌<◌}
use native.Mathlib.Nat.{zero-add, suc-add}
use native.Mathlib.Omega.{arith}
use lib.ListN.{length, replicate}
use Rattle.words.specs.Words.{word}
use Rattle.std.proofs.Common.{Option, Some, None}
use Rattle.reader.specs.declared.CodedCall.{CodedCall}
use Rattle.reader.specs.Calls.{decoded, position_after}
use Rattle.reader.specs.Handed.{handed_from, stands_after, first_steps, HandsOutCalls}
use Rattle.reader.proofs.Decoded.{decoded_call, decoded_end, after_call, after_end}

-- m times and then n times
handed_more : (s : List ℕ) (at m n : ℕ) → handed_from s at (m + n) ≡ handed_from s at m ++ handed_from s (stands_after s at m) n
unfolding handed_from stands_after
handed_more s at zero n = rw (zero-add n) refl
handed_more s at (suc m) n = ap (handed_from s at) (suc-add m n) ∙ ap (λ (xs : List (Option CodedCall)). decoded s at ∷ xs) (handed_more s (position_after s at) m n)

stands_more : (s : List ℕ) (at m n : ℕ) → stands_after s at (m + n) ≡ stands_after s (stands_after s at m) n
unfolding stands_after
stands_more s at zero n = rw (zero-add n) refl
stands_more s at (suc m) n = ap (stands_after s at) (suc-add m n) ∙ stands_more s (position_after s at) m n

-- while calls remain
stands_at : (s : List ℕ) (n : ℕ) → 8 * n ≤ length s → stands_after s 0 n ≡ 8 * n
unfolding stands_after
stands_at s zero h = refl
stands_at s (suc n) h =
    let e : suc n ≡ n + 1 = omega arith in
    let k : 8 * n + 8 ≡ 8 * suc n = omega arith in
    ap (stands_after s 0) e ∙ stands_more s 0 n 1 ∙ ap (position_after s) (stands_at s n (omega arith)) ∙ after_call s (8 * n) (omega arith) ∙ k

pub handed_first : (s : List ℕ) (n : ℕ) → 8 * n ≤ length s → handed_from s 0 n ≡ first_steps s n
unfolding handed_from first_steps
handed_first s zero h = refl
handed_first s (suc n) h =
    let e : suc n ≡ n + 1 = omega arith in
    let d : decoded s (stands_after s 0 n) ≡ Some (record { code = word s (2 * n); number = word s (2 * n + 1) }) = ap (decoded s) (stands_at s n (omega arith)) ∙ decoded_call s n (omega arith) in
    ap (handed_from s 0) e ∙ handed_more s 0 n 1 ∙ ap (λ (xs : List (Option CodedCall)). xs ++ (decoded s (stands_after s 0 n) ∷ [])) (handed_first s n (omega arith)) ∙ ap (λ (x : Option CodedCall). first_steps s n ++ (x ∷ [])) d

-- once fewer than 8 bytes remain
stays : (s : List ℕ) (at n : ℕ) → length s < at + 8 → stands_after s at n ≡ at
unfolding stands_after
stays s at zero h = refl
stays s at (suc n) h = ap (λ (p : ℕ). stands_after s p n) (after_end s at h) ∙ stays s at n h

handed_none : (s : List ℕ) (at n : ℕ) → length s < at + 8 → handed_from s at n ≡ replicate n None
unfolding handed_from
handed_none s at zero h = refl
handed_none s at (suc n) h = rw (decoded_end s at h, after_end s at h, handed_none s at n h) refl

pub hands_out_calls : HandsOutCalls
hands_out_calls s more =
    let n = length s / 8 in
    let fits : 8 * n ≤ length s = omega arith in
    let ends : length s < 8 * n + 8 = omega arith in
    let there = stands_at s n fits in (
      handed_more s 0 n more ∙ rw (handed_first s n fits, there, handed_none s (8 * n) more ends) refl,
      stands_more s 0 n more ∙ ap (λ (p : ℕ). stands_after s p more) there ∙ stays s (8 * n) more ends,
    )
