-- Numbers laid over others. Assumes nothing.
use Prim.Native.Nat.{ℕ, ◌+◌, ◌≤◌}
use mathlib.Core.Path.{◌≡◌, refl, sym, ◌∙◌, ap}
use mathlib.Core.List.{List, ◌++◌, append_assoc}
use native.Mathlib.Omega.{arith}
use lib.ListN.{length, take, drop, take-append-drop, length-drop, length-append}
use lib.Seq.{drop-drop, take_at, drop_at, length-take-le, take_all}
use borrow.Rule.Slice.PartMut.{put_mid}
use Rattle.std.proofs.lemmas.Slice.{take-put_mid}
use Rattle.numbers.specs.Numbers.{log_part, rest_part}

-- numbers laid behind others that were laid: p stands for the n first of s by now
dropped : (s z p : List ℕ) (m n : ℕ) → length p ≡ n → z ≡ p ++ drop n s → drop (n + m) z ≡ drop (n + m) s
dropped s z p m n h e = sym (drop-drop m n z) ∙ (ap (drop m) (ap (drop n) e ∙ drop_at p (drop n s) n h) ∙ drop-drop m n s)

module _ (s : List ℕ) where
  -- what stands there after xs were laid behind p, and how much that is
  laid_next : (z p xs zs : List ℕ) (n m : ℕ) → length p ≡ n → n + length xs ≡ m → z ≡ p ++ drop n s → zs ≡ take n z ++ (xs ++ drop (n + length xs) z)
      → (zs ≡ (p ++ xs) ++ drop m s) × (length (p ++ xs) ≡ m)
  laid_next z p xs zs n m h k e g = (
    g
        ∙ (ap (λ (l : List ℕ). l ++ (xs ++ drop (n + length xs) z)) (ap (take n) e ∙ take_at p (drop n s) n h)
        ∙ (ap (λ (l : List ℕ). p ++ (xs ++ l)) (dropped s z p (length xs) n h e)
        ∙ (sym (append_assoc p xs (drop (n + length xs) s)) ∙ ap (λ (i : ℕ). (p ++ xs) ++ drop i s) k))),
    length-append p xs ∙ omega (arith, h, k),
  )

  -- five lists, one behind the other
  pub laid_five : (p a b c d e u v w x y : List ℕ) (k l m n o q : ℕ) → length p ≡ k → k + length a ≡ l → l + length b ≡ m → m + length c ≡ n → n + length d ≡ o → o + length e ≡ q
      → s ≡ p ++ drop k s → u ≡ take k s ++ (a ++ drop (k + length a) s) → v ≡ take l u ++ (b ++ drop (l + length b) u) → w ≡ take m v ++ (c ++ drop (m + length c) v)
      → x ≡ take n w ++ (d ++ drop (n + length d) w) → y ≡ take o x ++ (e ++ drop (o + length e) x) → y ≡ (p ++ (a ++ (b ++ (c ++ (d ++ e))))) ++ drop q s
  laid_five p a b c d e u v w x y k l m n o q h1 h2 h3 h4 h5 h6 g0 g1 g2 g3 g4 g5 =
      let r1 = laid_next s p a u k l h1 h2 g0 g1 in
      let r2 = laid_next u (p ++ a) b v l m r1.1 h3 r1.0 g2 in
      let r3 = laid_next v ((p ++ a) ++ b) c w m n r2.1 h4 r2.0 g3 in
      let r4 = laid_next w (((p ++ a) ++ b) ++ c) d x n o r3.1 h5 r3.0 g4 in
      let r5 = laid_next x ((((p ++ a) ++ b) ++ c) ++ d) e y o q r4.1 h6 r4.0 g5 in
      r5.0 ∙ ap (λ (t : List ℕ). t ++ drop q s) (joined p a b c d e)
    where
      joined : (p a b c d e : List ℕ) → ((((p ++ a) ++ b) ++ c) ++ d) ++ e ≡ p ++ (a ++ (b ++ (c ++ (d ++ e))))
      joined p a b c d e =
          append_assoc (((p ++ a) ++ b) ++ c) d e
          ∙ (append_assoc ((p ++ a) ++ b) c (d ++ e)
          ∙ (append_assoc (p ++ a) b (c ++ (d ++ e)) ∙ append_assoc p a (b ++ (c ++ (d ++ e)))))

-- a list of n numbers with xs from place i on: its numbers before j are p and xs
record Laid (p zs : List ℕ) (j n : ℕ) : Type 0 where
  pub front : take j zs ≡ p
  pub long : length zs ≡ n

laid_more : (s p xs : List ℕ) (i k j n : ℕ) → Laid p s i n → length xs ≡ k → i + k ≡ j → j ≤ n → Laid (p ++ xs) (put_mid i k s xs) j n
laid_more s p xs i k j n h e f g = record {
  front = take-put_mid i k s xs j (omega arith) (omega arith) ∙ ap (λ (l : List ℕ). l ++ xs) h.front;
  long = simp (length-append, length-drop) (omega (arith, length-take-le i s (omega arith)));
}

-- five lists, one behind the other, to the end
pub laid_whole : (s a b c d e : List ℕ) (i j k l m n : ℕ) → length s ≡ n → i + length a ≡ j → j + length b ≡ k → k + length c ≡ l → l + length d ≡ m → m + length e ≡ n
    → put_mid m (length e) (put_mid l (length d) (put_mid k (length c) (put_mid j (length b) (put_mid i (length a) s a) b) c) d) e ≡ take i s ++ (a ++ (b ++ (c ++ (d ++ e))))
laid_whole s a b c d e i j k l m n h ha hb hc hd he =
    let r0 : Laid (take i s) s i n = record { front = refl; long = h } in
    let r1 = laid_more s (take i s) a i (length a) j n r0 refl ha (omega arith) in
    let r2 = laid_more _ _ b j (length b) k n r1 refl hb (omega arith) in
    let r3 = laid_more _ _ c k (length c) l n r2 refl hc (omega arith) in
    let r4 = laid_more _ _ d l (length d) m n r3 refl hd (omega arith) in
    let r5 = laid_more _ _ e m (length e) n n r4 refl he (omega arith) in
    sym (take_all n _ (omega (arith, r5.long))) ∙ (r5.front ∙ simp append_assoc)

-- the parts' lengths
pub log_length : (xs : List ℕ) → length xs ≡ 1649 → length (log_part xs) ≡ 1599
unfolding log_part
log_length xs e = length-take-le 1599 xs (omega arith)

pub rest_length : (xs : List ℕ) → length xs ≡ 1649 → length (rest_part xs) ≡ 50
unfolding rest_part
rest_length xs e = length-drop 1599 xs ∙ omega (arith, e)

pub parts_join : (xs : List ℕ) → log_part xs ++ rest_part xs ≡ xs
unfolding log_part rest_part
parts_join xs = take-append-drop 1599 xs
