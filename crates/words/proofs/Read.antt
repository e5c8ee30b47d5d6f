-- Laws of words read from a list of bytes: of written words, of a part, and of a list that is the bytes of its words. Assumes nothing.
use Rattle.std.proofs.Common.{◌≡◌, ℕ, zero, suc, ◌+◌, ◌*◌, ◌/◌, ◌%◌, ◌^◌, ◌<◌, ◌≤◌, List, [], ◌∷◌, ◌++◌, length, get_or, take, drop, sym, refl, ap, ◌∙◌, append-nil, add-one, arith, lit<, get_or-drop, take_all, get_or-take, take-suc}
use native.Mathlib.Nat.{div-div-eq-div-mul}
use Rattle.words.specs.Words.{word, bytes_of, sum_to, wrapped_sum, total, Words, Bytes}
use Rattle.words.proofs.Written.{length-bytes_of}

pub sum_more : (s : List ℕ) (n : ℕ) → sum_to s (n + 1) ≡ sum_to s n + word s n
unfolding sum_to
sum_more s n = rw add-one

-- ---- words that fit 32 bits

pub data Fit : List ℕ → Type 0 where
  none : Fit []
  more : {w : ℕ} {ws : List ℕ} → w < 2 ^ 32 → Fit ws → Fit (w ∷ ws)

pub fit_at : {ws : List ℕ} → Fit ws → Words ws
fit_at none i = lit< tt
fit_at (more h g) zero = h
fit_at (more h g) (suc i) = fit_at g i

pub fit_of : (ws : List ℕ) → Words ws → Fit ws
fit_of [] h = none
fit_of (w ∷ ws) h = more (h 0) (fit_of ws (λ i. h (suc i)))

pub fit_append : {ws vs : List ℕ} → Fit ws → Fit vs → Fit (ws ++ vs)
fit_append none g = g
fit_append (more h t) g = more h (fit_append t g)

pub word_fits : (f : List ℕ) (i : ℕ) → Bytes f → word f i < 2 ^ 32
word_fits f i h = omega (arith, h (4 * i), h (4 * i + 1), h (4 * i + 2), h (4 * i + 3))

-- ---- reading what was written

past_word : (a b c d : ℕ) (r : List ℕ) (k j : ℕ) → j ≡ 4 + k → get_or (a ∷ b ∷ c ∷ d ∷ r) j 0 ≡ get_or r k 0
past_word a b c d r k j h = let e : j ≡ suc (suc (suc (suc k))) = omega arith in rw e

next_word : (a b c d : ℕ) (r : List ℕ) (i : ℕ) → word (a ∷ b ∷ c ∷ d ∷ r) (suc i) ≡ word r i
next_word a b c d r i = rw (past_word a b c d r (4 * i) (4 * suc i) (omega arith), past_word a b c d r (4 * i + 1) (4 * suc i + 1) (omega arith), past_word a b c d r (4 * i + 2) (4 * suc i + 2) (omega arith), past_word a b c d r (4 * i + 3) (4 * suc i + 3) (omega arith))

digit : (x : ℕ) → x ≡ x % 256 + 256 * (x / 256)
digit x = omega arith

-- a word is the sum of its four bytes
whole : (w : ℕ) → w < 2 ^ 32 → w % 256 + 256 * (w / 256 % 256) + 65536 * (w / 65536 % 256) + 16777216 * (w / 16777216 % 256) ≡ w
whole w h =
    let two : w / 256 / 256 ≡ w / 65536 = div-div-eq-div-mul w 256 256 in
    let three : w / 65536 / 256 ≡ w / 16777216 = div-div-eq-div-mul w 65536 256 in
    let top : w / 16777216 % 256 ≡ w / 16777216 = let l : w / 16777216 < 256 = omega arith in omega arith in
    sum4 w (w % 256) (w / 256) (w / 256 % 256) (w / 65536) (w / 65536 % 256) (w / 16777216) (w / 16777216 % 256) (digit w) (digit (w / 256) ∙ ap (λ (x : ℕ). w / 256 % 256 + 256 * x) two) (digit (w / 65536) ∙ ap (λ (x : ℕ). w / 65536 % 256 + 256 * x) three) top
  where
    sum4 : (w a q b r c s d : ℕ) → w ≡ a + 256 * q → q ≡ b + 256 * r → r ≡ c + 256 * s → d ≡ s → a + 256 * b + 65536 * c + 16777216 * d ≡ w
    sum4 w a q b r c s d h₀ h₁ h₂ h₃ = omega arith

word_before : (ws r : List ℕ) (i : ℕ) → i < length ws → get_or ws i 0 < 2 ^ 32 → word (bytes_of ws ++ r) i ≡ get_or ws i 0
unfolding bytes_of
word_before [] r i l h = absurd (omega arith)
word_before (w ∷ ws) r zero l h = whole w h
word_before (w ∷ ws) r (suc i) l h =
    let ih : word (bytes_of ws ++ r) i ≡ get_or ws i 0 = word_before ws r i (omega arith) h in
    next_word (w % 256) (w / 256 % 256) (w / 65536 % 256) (w / 16777216 % 256) (bytes_of ws ++ r) i ∙ ih

-- a written word reads back
pub word_in : (ws : List ℕ) (i : ℕ) → i < length ws → Fit ws → word (bytes_of ws) i ≡ get_or ws i 0
word_in ws i l h = rw (append-nil (bytes_of ws)) at (word_before ws [] i l (fit_at h i))

total-append : (ws vs : List ℕ) → total (ws ++ vs) ≡ total ws + total vs
unfolding total
total-append [] vs = omega arith
total-append (w ∷ ws) vs = omega (arith, total-append ws vs)

one_total : (w : ℕ) → total (w ∷ []) ≡ w
unfolding total
one_total w = omega arith

pub two_total : (a b : ℕ) (ws : List ℕ) → total (a ∷ b ∷ ws) ≡ a + (b + total ws)
unfolding total
two_total a b ws = refl

sum_first : (ws : List ℕ) (n : ℕ) → n ≤ length ws → Fit ws → sum_to (bytes_of ws) n ≡ total (take n ws)
unfolding sum_to total
sum_first ws zero l h = refl
sum_first ws (suc n) l h =
    let ih : sum_to (bytes_of ws) n ≡ total (take n ws) = sum_first ws n (omega arith) h in
    let t : total (take (suc n) ws) ≡ total (take n ws) + get_or ws n 0 = rw (take-suc ws n 0 (omega arith), total-append, one_total) in
    omega (arith, word_in ws n (omega arith) h)

-- the wrapping sum of written words
pub sum_written : (ws : List ℕ) → Fit ws → wrapped_sum (bytes_of ws) ≡ total ws % 2 ^ 32
unfolding wrapped_sum
sum_written ws h =
    let q : length (bytes_of ws) / 4 ≡ length ws = omega (arith, length-bytes_of ws) in
    ap (λ (n : ℕ). sum_to (bytes_of ws) n % 2 ^ 32) q
    ∙ ap (λ (t : ℕ). t % 2 ^ 32) (sum_first ws (length ws) (omega arith) h ∙ ap total (take_all (length ws) ws (omega arith)))

-- ---- a list of bytes is the bytes of its words

low_digit : (a x : ℕ) → a < 256 → (a + 256 * x) % 256 ≡ a
low_digit a x h = omega arith

high_digits : (a x : ℕ) → a < 256 → (a + 256 * x) / 256 ≡ x
high_digits a x h = omega arith

record Four (w a b c d : ℕ) : Type 0 where
  pub is₀ : w % 256 ≡ a
  pub is₁ : w / 256 % 256 ≡ b
  pub is₂ : w / 65536 % 256 ≡ c
  pub is₃ : w / 16777216 % 256 ≡ d

four : (w a b c d : ℕ) → a < 256 → b < 256 → c < 256 → d < 256 → a + 256 * b + 65536 * c + 16777216 * d ≡ w → Four w a b c d
four w a b c d ha hb hc hd e =
    let e₀ : w ≡ a + 256 * (b + 256 * (c + 256 * d)) = omega arith in
    let e₁ : w / 256 ≡ b + 256 * (c + 256 * d) = ap (λ (x : ℕ). x / 256) e₀ ∙ high_digits a (b + 256 * (c + 256 * d)) ha in
    let e₂ : w / 65536 ≡ c + 256 * d = sym (div-div-eq-div-mul w 256 256) ∙ (ap (λ (x : ℕ). x / 256) e₁ ∙ high_digits b (c + 256 * d) hb) in
    let e₃ : w / 16777216 ≡ d = sym (div-div-eq-div-mul w 65536 256) ∙ (ap (λ (x : ℕ). x / 256) e₂ ∙ high_digits c d hc) in
    record {
      is₀ = ap (λ (x : ℕ). x % 256) e₀ ∙ low_digit a (b + 256 * (c + 256 * d)) ha;
      is₁ = ap (λ (x : ℕ). x % 256) e₁ ∙ low_digit b (c + 256 * d) hb;
      is₂ = ap (λ (x : ℕ). x % 256) e₂ ∙ low_digit c d hc;
      is₃ = ap (λ (x : ℕ). x % 256) e₃ ∙ omega arith;
    }

pub of_words : (ws f : List ℕ) → length f ≡ 4 * length ws → Bytes f → ((i : ℕ) → i < length ws → word f i ≡ get_or ws i 0) → f ≡ bytes_of ws
unfolding bytes_of
of_words [] [] e h g = refl
of_words [] (a ∷ f) e h g = absurd (omega arith)
of_words (w ∷ ws) [] e h g = absurd (omega arith)
of_words (w ∷ ws) (a ∷ []) e h g = absurd (omega arith)
of_words (w ∷ ws) (a ∷ b ∷ []) e h g = absurd (omega arith)
of_words (w ∷ ws) (a ∷ b ∷ c ∷ []) e h g = absurd (omega arith)
of_words (w ∷ ws) (a ∷ b ∷ c ∷ d ∷ r) e h g =
    let x = four w a b c d (h 0) (h 1) (h 2) (h 3) (g 0 (omega arith)) in
    let ih : r ≡ bytes_of ws = of_words ws r (omega arith) (λ i. h (suc (suc (suc (suc i))))) (λ i l. sym (next_word a b c d r i) ∙ g (suc i) (omega arith)) in
    cc (x.is₀, x.is₁, x.is₂, x.is₃)

-- ---- a word of a part is a word of the whole

pub part_at : (f : List ℕ) (a n j : ℕ) → j < n → get_or (take n (drop a f)) j 0 ≡ get_or f (a + j) 0
part_at f a n j l = get_or-take n (drop a f) j 0 l ∙ get_or-drop a f j 0

pub word_of_part : (f : List ℕ) (m n i : ℕ) → 4 * i + 4 ≤ n → word (take n (drop (4 * m) f)) i ≡ word f (m + i)
word_of_part f m n i l =
    let e₀ : 4 * m + 4 * i ≡ 4 * (m + i) = omega arith in
    let e₁ : 4 * m + (4 * i + 1) ≡ 4 * (m + i) + 1 = omega arith in
    let e₂ : 4 * m + (4 * i + 2) ≡ 4 * (m + i) + 2 = omega arith in
    let e₃ : 4 * m + (4 * i + 3) ≡ 4 * (m + i) + 3 = omega arith in
    let d = 4 * m in
    rw (part_at f d n (4 * i) (omega arith), part_at f d n (4 * i + 1) (omega arith), part_at f d n (4 * i + 2) (omega arith), part_at f d n (4 * i + 3) (omega arith), e₀, e₁, e₂, e₃)
