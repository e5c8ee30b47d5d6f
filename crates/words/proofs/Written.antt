-- Laws of words written into a list of bytes. Assumes nothing.
use Rattle.std.proofs.Common.{◌≡◌, ℕ, ◌+◌, ◌*◌, ◌<◌, List, [], ◌∷◌, ◌++◌, length, get_or, take, drop, refl, ap, ◌∙◌, append_assoc, add-one, arith, length-take-le, take-suc, drop-drop, take_at}
use lib.Seq.{drop-append-add}
use Rattle.words.specs.Words.{word_bytes, bytes_of, with_word}

pub length-bytes_of : (ws : List ℕ) → length (bytes_of ws) ≡ 4 * length ws
unfolding bytes_of
length-bytes_of [] = refl
length-bytes_of (w ∷ ws) = omega (arith, length-bytes_of ws)

pub bytes_of-append : (ws vs : List ℕ) → bytes_of (ws ++ vs) ≡ bytes_of ws ++ bytes_of vs
unfolding bytes_of
bytes_of-append [] vs = refl
bytes_of-append (w ∷ ws) vs = rw (bytes_of-append ws vs)

one_word : (w : ℕ) → bytes_of (w ∷ []) ≡ word_bytes w
unfolding bytes_of
one_word w = refl

-- a word written just after whole words
after_words : (p d : List ℕ) (i w : ℕ) → length p ≡ 4 * i → with_word (p ++ d) i w ≡ (p ++ word_bytes w) ++ drop 4 d
after_words p d i w h =
    let e : 4 * i + 4 ≡ length p + 4 = omega arith in
    rw (e, take_at p d (4 * i) h, drop-append-add p d 4, append_assoc)

-- one word more of those to be written
pub put_more : (ws s : List ℕ) (i : ℕ) → i < length ws
    → with_word (bytes_of (take i ws) ++ drop (4 * i) s) i (get_or ws i 0) ≡ bytes_of (take (i + 1) ws) ++ drop (4 * (i + 1)) s
put_more ws s i h =
    let long : length (bytes_of (take i ws)) ≡ 4 * i = length-bytes_of (take i ws) ∙ ap (λ (n : ℕ). 4 * n) (length-take-le i ws (omega arith)) in
    let e : 4 * (i + 1) ≡ 4 * i + 4 = omega arith in
    after_words (bytes_of (take i ws)) (drop (4 * i) s) i (get_or ws i 0) long ∙ rw (drop-drop, e, add-one i, take-suc ws i 0 h, bytes_of-append, one_word)

-- the second word of written words, written anew
pub second_word : (a b w : ℕ) (ws r : List ℕ) → with_word (bytes_of (a ∷ b ∷ ws) ++ r) 1 w ≡ bytes_of (a ∷ w ∷ ws) ++ r
unfolding bytes_of
second_word a b w ws r = refl
