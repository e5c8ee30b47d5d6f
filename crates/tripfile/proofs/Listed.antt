-- Laws of lists of calls: of a body, of codes and numbers, and of their words. Assumes nothing.
use mathlib.Core.Path.{◌≡◌, refl, sym, ◌∙◌, ap}
use mathlib.Core.Bool.{Bool, true, false, ◌&&◌}
use mathlib.Core.List.{List, [], ◌∷◌, ◌++◌}
use Prim.Native.Nat.{ℕ, zero, suc, ◌+◌, ◌*◌, ◌/◌, ◌<◌}
use native.Mathlib.Omega.{arith}
use lib.ListN.{length, get_or, take, drop, length-append, get_or-append}
use lib.Seq.{take-suc, take_all, get_or_at}
use lib.Dec.{eqb}
use borrow.Author.Tests.{eqb-true, eqb-false}
use Rattle.words.specs.Words.{bytes_of, with_word}
use Rattle.words.proofs.Written.{put_more}
use Rattle.words.proofs.Read.{Fit, none, more}
use Rattle.tariff.proofs.Tests.{and_assoc, and_left, and_right}
use Rattle.tripfile.specs.Bodies.{Call, call, call_at, first_calls, calls_in, call_words, paired, codes_of, numbers_of, call_right, calls_right}

-- ---- the calls of a body

pub calls_more : (b : List ℕ) (n : ℕ) → first_calls b (n + 1) ≡ first_calls b n ++ (call_at b n ∷ [])
unfolding first_calls
calls_more b n = let e : n + 1 ≡ suc n = omega arith in ap (first_calls b) e

pub length_first : (b : List ℕ) (n : ℕ) → length (first_calls b n) ≡ n
unfolding first_calls
length_first b zero = refl
length_first b (suc n) = length-append (first_calls b n) (call_at b n ∷ []) ∙ omega (arith, length_first b n)

pub length_calls : (b : List ℕ) → length (calls_in b) ≡ length b / 8
unfolding calls_in
length_calls b = length_first b (length b / 8)

first_at : (b : List ℕ) (n i : ℕ) → i < n → get_or (first_calls b n) i (call 0 0) ≡ call_at b i
unfolding first_calls
first_at b zero i l = absurd (omega arith)
first_at b (suc n) i l = go (eqb i n) refl (λ l'. first_at b n i l')
  where
    go : (t : Bool) → eqb i n ≡ t → (i < n → get_or (first_calls b n) i (call 0 0) ≡ call_at b i) → get_or (first_calls b n ++ (call_at b n ∷ [])) i (call 0 0) ≡ call_at b i
    go true e ih = let q = eqb-true i n e in rw q (get_or_at (first_calls b n) (call_at b n) [] (call 0 0) n (length_first b n))
    go false e ih =
        let l' : i < n = omega (arith, eqb-false i n e) in
        get_or-append (first_calls b n) (call_at b n ∷ []) (call 0 0) i (omega (arith, length_first b n)) ∙ ih l'

-- call i of a body
pub call_in : (b : List ℕ) (i : ℕ) → i < length b / 8 → get_or (calls_in b) i (call 0 0) ≡ call_at b i
unfolding calls_in
call_in b i l = first_at b (length b / 8) i l

-- ---- right calls

pub right_append : (cs : List Call) (c : Call) → calls_right (cs ++ (c ∷ [])) ≡ (calls_right cs && call_right c)
unfolding calls_right
right_append [] c = go (call_right c)
  where
    go : (t : Bool) → (t && true) ≡ t
    go true = refl
    go false = refl
right_append (d ∷ cs) c = ap (λ (t : Bool). call_right d && t) (right_append cs c) ∙ sym (and_assoc (call_right d) (calls_right cs) (call_right c))

pub right_more : (b : List ℕ) (n : ℕ) → calls_right (first_calls b (n + 1)) ≡ (calls_right (first_calls b n) && call_right (call_at b n))
right_more b n = ap calls_right (calls_more b n) ∙ right_append (first_calls b n) (call_at b n)

pub right_at : (cs : List Call) (i : ℕ) → calls_right cs ≡ true → i < length cs → call_right (get_or cs i (call 0 0)) ≡ true
unfolding calls_right
right_at [] i h l = absurd (omega arith)
right_at (c ∷ cs) zero h l = and_left (call_right c) (calls_right cs) h
right_at (c ∷ cs) (suc i) h l = right_at cs i (and_right (call_right c) (calls_right cs) h) (omega arith)

-- ---- codes and numbers

pub length-paired : (cs ns : List ℕ) → length ns ≡ length cs → length (paired cs ns) ≡ length cs
unfolding paired
length-paired [] ns h = refl
length-paired (c ∷ cs) [] h = absurd (omega arith)
length-paired (c ∷ cs) (n ∷ ns) h = let ih : length (paired cs ns) ≡ length cs = length-paired cs ns (omega arith) in omega arith

pub paired_at : (cs ns : List ℕ) (i : ℕ) → length ns ≡ length cs → i < length cs → get_or (paired cs ns) i (call 0 0) ≡ call (get_or cs i 0) (get_or ns i 0)
unfolding paired
paired_at [] ns i h l = absurd (omega arith)
paired_at (c ∷ cs) [] i h l = absurd (omega arith)
paired_at (c ∷ cs) (n ∷ ns) zero h l = refl
paired_at (c ∷ cs) (n ∷ ns) (suc i) h l = paired_at cs ns i (omega arith) (omega arith)

pub pairs_more : (cs ns : List ℕ) (i : ℕ) → length ns ≡ length cs → i < length cs
    → calls_right (take (i + 1) (paired cs ns)) ≡ (calls_right (take i (paired cs ns)) && call_right (call (get_or cs i 0) (get_or ns i 0)))
pairs_more cs ns i h l =
    let e : i + 1 ≡ suc i = omega arith in
    let xs = paired cs ns in
    ap (λ (n : ℕ). calls_right (take n xs)) e
    ∙ (ap calls_right (take-suc xs i (call 0 0) (omega (arith, length-paired cs ns h)))
    ∙ (right_append (take i xs) (get_or xs i (call 0 0)) ∙ ap (λ (c : Call). calls_right (take i xs) && call_right c) (paired_at cs ns i h l)))

pub all_pairs : (cs ns : List ℕ) → length ns ≡ length cs → take (length cs) (paired cs ns) ≡ paired cs ns
all_pairs cs ns h = take_all (length cs) (paired cs ns) (omega (arith, length-paired cs ns h))

pub codes_paired : (cs ns : List ℕ) → length ns ≡ length cs → codes_of (paired cs ns) ≡ cs
unfolding paired codes_of
codes_paired [] ns h = refl
codes_paired (c ∷ cs) [] h = absurd (omega arith)
codes_paired (c ∷ cs) (n ∷ ns) h = let e : length ns ≡ length cs = omega arith in ap (λ (xs : List ℕ). c ∷ xs) (codes_paired cs ns e)

pub numbers_paired : (cs ns : List ℕ) → length ns ≡ length cs → numbers_of (paired cs ns) ≡ ns
unfolding paired numbers_of
numbers_paired [] [] h = refl
numbers_paired [] (n ∷ ns) h = absurd (omega arith)
numbers_paired (c ∷ cs) [] h = absurd (omega arith)
numbers_paired (c ∷ cs) (n ∷ ns) h = let e : length ns ≡ length cs = omega arith in ap (λ (xs : List ℕ). n ∷ xs) (numbers_paired cs ns e)

pub paired_again : (xs : List Call) → paired (codes_of xs) (numbers_of xs) ≡ xs
unfolding paired codes_of numbers_of
paired_again [] = refl
paired_again (x ∷ xs) = ap (λ (ys : List Call). x ∷ ys) (paired_again xs)

pub length_codes : (xs : List Call) → length (codes_of xs) ≡ length xs
unfolding codes_of
length_codes [] = refl
length_codes (x ∷ xs) = let ih : length (codes_of xs) ≡ length xs = length_codes xs in omega arith

pub length-numbers : (xs : List Call) → length (numbers_of xs) ≡ length xs
unfolding numbers_of
length-numbers [] = refl
length-numbers (x ∷ xs) = let ih : length (numbers_of xs) ≡ length xs = length-numbers xs in omega arith

-- ---- the words of calls

pub length_words : (xs : List Call) → length (call_words xs) ≡ 2 * length xs
unfolding call_words
length_words [] = refl
length_words (x ∷ xs) = let ih : length (call_words xs) ≡ 2 * length xs = length_words xs in omega arith

pub code_word : (xs : List Call) (i : ℕ) → i < length xs → get_or (call_words xs) (2 * i) 0 ≡ (get_or xs i (call 0 0)).code
unfolding call_words
code_word [] i h = absurd (omega arith)
code_word (x ∷ xs) zero h = refl
code_word (x ∷ xs) (suc i) h = let e : 2 * suc i ≡ suc (suc (2 * i)) = omega arith in rw e (code_word xs i (omega arith))

pub number_word : (xs : List Call) (i : ℕ) → i < length xs → get_or (call_words xs) (2 * i + 1) 0 ≡ (get_or xs i (call 0 0)).number
unfolding call_words
number_word [] i h = absurd (omega arith)
number_word (x ∷ xs) zero h = refl
number_word (x ∷ xs) (suc i) h = let e : 2 * suc i + 1 ≡ suc (suc (2 * i + 1)) = omega arith in rw e (number_word xs i (omega arith))

pub fit_calls : (cs ns : List ℕ) → Fit cs → Fit ns → Fit (call_words (paired cs ns))
unfolding call_words paired
fit_calls [] ns g h = none
fit_calls (c ∷ cs) [] g h = none
fit_calls (c ∷ cs) (n ∷ ns) (more a g) (more b h) = more a (more b (fit_calls cs ns g h))

-- a call written after those before it
pub put_call : (cs ns s : List ℕ) (i : ℕ) → length ns ≡ length cs → i < length cs
    → with_word (with_word (bytes_of (take (2 * i) (call_words (paired cs ns))) ++ drop (4 * (2 * i)) s) (2 * i) (get_or cs i 0)) (2 * i + 1) (get_or ns i 0)
    ≡ bytes_of (take (2 * (i + 1)) (call_words (paired cs ns))) ++ drop (4 * (2 * (i + 1))) s
put_call cs ns s i h l =
    let xs = paired cs ns in
    let ws = call_words xs in
    let n = length-paired cs ns h in
    let m = length_words xs in
    let at = paired_at cs ns i h l in
    let code : get_or ws (2 * i) 0 ≡ get_or cs i 0 = code_word xs i (omega arith) ∙ ap (λ (c : Call). c.code) at in
    let number : get_or ws (2 * i + 1) 0 ≡ get_or ns i 0 = number_word xs i (omega arith) ∙ ap (λ (c : Call). c.number) at in
    let one : with_word (bytes_of (take (2 * i) ws) ++ drop (4 * (2 * i)) s) (2 * i) (get_or cs i 0) ≡ bytes_of (take (2 * i + 1) ws) ++ drop (4 * (2 * i + 1)) s = rw (← code) (put_more ws s (2 * i) (omega arith)) in
    let two : with_word (bytes_of (take (2 * i + 1) ws) ++ drop (4 * (2 * i + 1)) s) (2 * i + 1) (get_or ns i 0) ≡ bytes_of (take (2 * i + 1 + 1) ws) ++ drop (4 * (2 * i + 1 + 1)) s = rw (← number) (put_more ws s (2 * i + 1) (omega arith)) in
    let e : 2 * (i + 1) ≡ 2 * i + 1 + 1 = omega arith in
    ap (λ (x : List ℕ). with_word x (2 * i + 1) (get_or ns i 0)) one ∙ (two ∙ rw e)

-- all of them written
pub put_all : (cs ns s : List ℕ) (n : ℕ) → n ≡ length cs → length ns ≡ length cs
    → bytes_of (take (2 * n) (call_words (paired cs ns))) ++ drop (4 * (2 * n)) s ≡ bytes_of (call_words (paired cs ns)) ++ drop (8 * length cs) s
put_all cs ns s n e h =
    let xs = paired cs ns in
    let whole : take (2 * n) (call_words xs) ≡ call_words xs = take_all (2 * n) (call_words xs) (omega (arith, length_words xs, length-paired cs ns h)) in
    let all : 4 * (2 * n) ≡ 8 * length cs = omega arith in
    rw (whole, all)
