-- Reading: what stands in the lent lists after each line, and what each way out answers. Assumes nothing.
use mathlib.Core.Path.{◌≡◌, refl, sym, ◌∙◌, ap}
use mathlib.Core.Bool.{Bool, true, false, cond, ◌||◌, not}
use mathlib.Core.List.{List, [], ◌∷◌}
use Prim.Native.Nat.{ℕ, zero, suc, ◌+◌, ◌≤◌, ◌<◌}
use native.Mathlib.Nat.{zero-add}
use native.Mathlib.Omega.{arith}
use lib.ListN.{length, get_or, take, set}
use lib.Seq.{take_all}
use lib.Dec.{ltb}
use borrow.Author.Tests.{lt-ltb, le-ltb, ltb-false, leb-true}
use Rattle.tripfile.specs.Bodies.{codes_of, numbers_of}
use Rattle.tripfile.proofs.Listed.{length_codes, length-numbers}
use Rattle.tariff.specs.Tests.{verdict_of}
use Rattle.textlines.specs.declared.TextError.{TextError}
use Rattle.textlines.specs.declared.TextError.TheVariants.{BadLine, Refused}
use Rattle.text.specs.Text.{placed}
use Rattle.text.proofs.Placing.{put_more}
use Rattle.textlines.specs.Line.{code_in, number_in, call_in}
use Rattle.textlines.specs.Text.{lines_of, right_lines, calls_in, calls_of, size_right, reading_reasons, reading_answer, reading_of}
use Rattle.std.specs.Prelude.{Result, Ok, Err}
use Rattle.tariff.specs.declared.Refusal.TheVariants.{NoRoom, TextLength, LineForm}

pub length_calls : (ls : List (List ℕ)) → length (calls_in ls) ≡ length ls
unfolding calls_in
length_calls [] = refl
length_calls (l ∷ ls) = ap suc (length_calls ls)

-- one element more of X stored into s
pub fill_step : (X s s₀ : List ℕ) (i x : ℕ) → s ≡ placed s₀ 0 (take i X) → i < length X → length X ≤ length s₀ → get_or X i 0 ≡ x
    → set s i x ≡ placed s₀ 0 (take (i + 1) X)
fill_step X s s₀ i x e l m g =
    ap (λ (y : List ℕ). set y i x) e
    ∙ (ap (λ (y : ℕ). set (placed s₀ 0 (take i X)) i y) (sym g)
    ∙ (ap (λ (k : ℕ). set (placed s₀ 0 (take i X)) k (get_or X i 0)) (sym (zero-add i)) ∙ put_more s₀ 0 X i (omega arith) l))

-- ---- the call of each line

code_at : (ls : List (List ℕ)) (k : ℕ) (d : List ℕ) → k < length ls → get_or (codes_of (calls_in ls)) k 0 ≡ code_in (get_or ls k d)
unfolding calls_in codes_of call_in
code_at [] k d h = absurd (omega arith)
code_at (l ∷ ls) zero d h = refl
code_at (l ∷ ls) (suc k) d h = code_at ls k d (omega arith)

number_at : (ls : List (List ℕ)) (k : ℕ) (d : List ℕ) → k < length ls → get_or (numbers_of (calls_in ls)) k 0 ≡ number_in (code_in (get_or ls k d)) (get_or ls k d)
unfolding calls_in numbers_of call_in
number_at [] k d h = absurd (omega arith)
number_at (l ∷ ls) zero d h = refl
number_at (l ∷ ls) (suc k) d h = number_at ls k d (omega arith)

count_codes : (t : List ℕ) → length (codes_of (calls_of t)) ≡ length (lines_of t)
unfolding calls_of
count_codes t = length_codes (calls_in (lines_of t)) ∙ length_calls (lines_of t)

count_numbers : (t : List ℕ) → length (numbers_of (calls_of t)) ≡ length (lines_of t)
unfolding calls_of
count_numbers t = length-numbers (calls_in (lines_of t)) ∙ length_calls (lines_of t)

-- a line's code and number stored after those of the k lines before it
module _ (t s s₀ : List ℕ) (k : ℕ) (l : List ℕ) (code : ℕ) (within : k < length (lines_of t)) (room : length (lines_of t) ≤ length s₀) (is : l ≡ get_or (lines_of t) k l)
    (e : code ≡ code_in l) where
  pub code_put : s ≡ placed s₀ 0 (take k (codes_of (calls_of t))) → set s k code ≡ placed s₀ 0 (take (k + 1) (codes_of (calls_of t)))
  unfolding calls_of
  code_put h =
      fill_step (codes_of (calls_of t)) s s₀ k code h (omega (arith, count_codes t)) (omega (arith, count_codes t))
      (code_at (lines_of t) k l within ∙ (ap code_in (sym is) ∙ sym e))

  pub number_put : (number : ℕ) → number ≡ number_in code l → s ≡ placed s₀ 0 (take k (numbers_of (calls_of t))) → set s k number ≡ placed s₀ 0 (take (k + 1) (numbers_of (calls_of t)))
  unfolding calls_of
  number_put number n h =
      fill_step (numbers_of (calls_of t)) s s₀ k number h (omega (arith, count_numbers t)) (omega (arith, count_numbers t))
      (number_at (lines_of t) k l within
      ∙ (ap (λ (x : List ℕ). number_in (code_in x) x) (sym is) ∙ (ap (λ (c : ℕ). number_in c l) (sym e) ∙ sym n)))

-- all of them
pub codes_all : (t s₀ : List ℕ) (k : ℕ) → k ≡ length (lines_of t) → placed s₀ 0 (take k (codes_of (calls_of t))) ≡ placed s₀ 0 (codes_of (calls_of t))
codes_all t s₀ k e = ap (placed s₀ 0) (take_all k (codes_of (calls_of t)) (omega (arith, count_codes t)))

pub numbers_all : (t s₀ : List ℕ) (k : ℕ) → k ≡ length (lines_of t) → placed s₀ 0 (take k (numbers_of (calls_of t))) ≡ placed s₀ 0 (numbers_of (calls_of t))
numbers_all t s₀ k e = ap (placed s₀ 0) (take_all k (numbers_of (calls_of t)) (omega (arith, count_numbers t)))

-- ---- the answers

abbrev chosen : ℕ → ℕ → Bool → Bool → Bool → Result ℕ TextError
chosen lines right x y z = reading_answer (cond x (Err TextLength) (cond y (Err LineForm) (cond z (Err NoRoom) (Ok tt)))) lines right

pub chosen_is : (t : List ℕ) (a b lines right : ℕ) → lines ≡ length (lines_of t) → right ≡ right_lines (lines_of t) → (x y z : Bool)
    → not (size_right (length t) lines) ≡ x → ltb right lines ≡ y → (ltb a lines || ltb b lines) ≡ z → chosen lines right x y z ≡ reading_of t a b
unfolding reading_of reading_reasons verdict_of
chosen_is t a b lines right e f x y z ex ey ez =
    let all : ℕ → ℕ → Result ℕ TextError = λ n m. chosen n m (not (size_right (length t) n)) (ltb m n) (ltb a n || ltb b n) in
    ap (λ (u : Bool). chosen lines right u y z) (sym ex)
    ∙ (ap (λ (u : Bool). chosen lines right (not (size_right (length t) lines)) u z) (sym ey)
    ∙ (ap (λ (u : Bool). chosen lines right (not (size_right (length t) lines)) (ltb right lines) u) (sym ez)
    ∙ (ap (λ (n : ℕ). all n right) e ∙ ap (λ (m : ℕ). all (length (lines_of t)) m) f)))

pub answers_21 : (t : List ℕ) (a b lines : ℕ) → lines ≡ length (lines_of t) → not (size_right (length t) lines) ≡ true → Err (Refused TextLength) ≡ reading_of t a b
answers_21 t a b lines e h = chosen_is t a b lines (right_lines (lines_of t)) e refl true _ _ h refl refl

pub answers_22 : (t : List ℕ) (a b lines right : ℕ) → lines ≡ length (lines_of t) → right ≡ right_lines (lines_of t) → not (size_right (length t) lines) ≡ false
    → right < lines → Err (BadLine (right + 1)) ≡ reading_of t a b
answers_22 t a b lines right e f h l = chosen_is t a b lines right e f false true _ h (lt-ltb right lines l) refl

pub answers_16 : (t : List ℕ) (a b lines right : ℕ) → lines ≡ length (lines_of t) → right ≡ right_lines (lines_of t) → not (size_right (length t) lines) ≡ false
    → lines ≤ right → (ltb a lines || ltb b lines) ≡ true → Err (Refused NoRoom) ≡ reading_of t a b
answers_16 t a b lines right e f h l s = chosen_is t a b lines right e f false false true h (le-ltb right lines l) s

pub answers_calls : (t : List ℕ) (a b lines right : ℕ) → lines ≡ length (lines_of t) → right ≡ right_lines (lines_of t) → not (size_right (length t) lines) ≡ false
    → lines ≤ right → (ltb a lines || ltb b lines) ≡ false → Ok lines ≡ reading_of t a b
answers_calls t a b lines right e f h l s = chosen_is t a b lines right e f false false false h (le-ltb right lines l) s

pub neither : (a b c : ℕ) → (ltb a c || ltb b c) ≡ false → (c ≤ a) × (c ≤ b)
neither a b c h = go (ltb a c) (ltb b c) refl refl h
  where
    go : (x y : Bool) → ltb a c ≡ x → ltb b c ≡ y → (x || y) ≡ false → (c ≤ a) × (c ≤ b)
    go true y e f h = (leb-true c a cc, leb-true c b cc)
    go false true e f h = (leb-true c a cc, leb-true c b cc)
    go false false e f h = (ltb-false a c e, ltb-false b c f)
