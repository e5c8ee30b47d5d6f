-- Laws of text that is put into a buffer. Assumes nothing.
use mathlib.Core.Path.{◌≡◌, refl, sym, ◌∙◌, ap}
use Prim.Native.Nat.{ℕ, ◌+◌, ◌≤◌, ◌<◌}
use mathlib.Core.List.{List, [], ◌∷◌, ◌++◌, append_assoc}
use native.Mathlib.Numerals.{add-one}
use native.Mathlib.Omega.{arith}
use native.Mathlib.Nat.{add-zero}
use lib.ListN.{length, get_or, set, take, drop, length-append, length-drop, take-append-drop}
use lib.Seq.{take_at, drop-append-add, drop-drop, set_split, take-suc, length-take-le}
use Rattle.text.specs.Text.{placed}

-- the buffer's length stays
pub length-placed : (buf : List ℕ) (a : ℕ) (s : List ℕ) → a + length s ≤ length buf → length (placed buf a s) ≡ length buf
unfolding placed
length-placed buf a s h =
    let t = length-take-le a buf (omega arith) in
    let d = length-drop (a + length s) buf in
    rw (length-append, length-append) (omega arith)

-- nothing put
pub placed_none : (buf : List ℕ) (a : ℕ) → placed buf a [] ≡ buf
unfolding placed
placed_none buf a = rw (add-zero a) (take-append-drop a buf)

-- text put after text is both put
pub placed_after : (buf : List ℕ) (a : ℕ) (s t : List ℕ) → a + length s ≤ length buf
    → placed (placed buf a s) (a + length s) t ≡ placed buf a (s ++ t)
unfolding placed
placed_after buf a s t h =
    let p = take a buf ++ s in
    let d = drop (a + length s) buf in
    let l : length p ≡ a + length s = length-append (take a buf) s ∙ ap (λ (k : ℕ). k + length s) (length-take-le a buf (omega arith)) in
    let front : take (a + length s) (p ++ d) ≡ p = take_at p d (a + length s) l in
    let e : a + length s + length t ≡ length p + length t = omega arith in
    let back : drop (a + length s + length t) (p ++ d) ≡ drop (length t) d = ap (λ (k : ℕ). drop k (p ++ d)) e ∙ drop-append-add p d (length t) in
    let n : a + length s + length t ≡ a + length (s ++ t) = omega (arith, length-append s t) in
    rw (← append_assoc (take a buf) s d, front, back, drop-drop (length t) (a + length s) buf, n, append_assoc (take a buf) s, append_assoc s t) refl

-- one byte stored
pub stored : (buf : List ℕ) (a b : ℕ) → a < length buf → set buf a b ≡ placed buf a (b ∷ [])
unfolding placed
stored buf a b h = rw (add-one a) (set_split buf a b h)

-- one byte more of those to be put
pub put_more : (buf : List ℕ) (a : ℕ) (s : List ℕ) (i : ℕ) → a + length s ≤ length buf → i < length s
    → set (placed buf a (take i s)) (a + i) (get_or s i 0) ≡ placed buf a (take (i + 1) s)
put_more buf a s i h l =
    let e : length (take i s) ≡ i = length-take-le i s (omega arith) in
    let k : length (placed buf a (take i s)) ≡ length buf = length-placed buf a (take i s) (omega arith) in
    stored (placed buf a (take i s)) (a + i) (get_or s i 0) (omega arith)
    ∙ (ap (λ (n : ℕ). placed (placed buf a (take i s)) (a + n) (get_or s i 0 ∷ [])) (sym e)
    ∙ (placed_after buf a (take i s) (get_or s i 0 ∷ []) (omega arith)
    ∙ ap (placed buf a) (sym (rw (add-one i) (take-suc s i 0 l)))))

-- a buffer b that was b₀, with the text s put from place a on, which ends at e
pub record Put (b₀ : List ℕ) (a : ℕ) (b : List ℕ) (e : ℕ) (s : List ℕ) : Type 0 where
  pub buffer : b ≡ placed b₀ a s
  pub end : e ≡ a + length s

-- text put after it
pub put_next : (b₀ : List ℕ) (a : ℕ) (b : List ℕ) (e : ℕ) (s : List ℕ) (b' : List ℕ) (e' : ℕ) (t : List ℕ)
    → Put b₀ a b e s → e ≤ length b₀ → b' ≡ placed b e t → e' ≡ e + length t → Put b₀ a b' e' (s ++ t)
put_next b₀ a b e s b' e' t p h f g = record {
  buffer =
      f ∙ (ap (λ (x : List ℕ). placed x e t) p.buffer
      ∙ (ap (λ (k : ℕ). placed (placed b₀ a s) k t) p.end ∙ placed_after b₀ a s t (omega (arith, p.end))));
  end = omega (arith, p.end, length-append s t);
}
