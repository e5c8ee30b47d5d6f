-- Laws of the decimal text of a number. Assumes nothing.
use mathlib.Core.Path.{◌≡◌, refl, sym, ◌∙◌, ap}
use Prim.Native.Nat.{ℕ, zero, suc, ◌+◌, ◌-◌, ◌*◌, ◌/◌, ◌%◌, ◌^◌, ◌≤◌, ◌<◌, max}
use mathlib.Core.Bool.{Bool, true, false, ◌&&◌}
use mathlib.Core.List.{List, [], ◌∷◌, ◌++◌, append_assoc, append-nil}
use native.Mathlib.Omega.{arith}
use lib.ListN.{length, get_or, set, length-append, get_or-append}
use lib.Seq.{get_or-append_seam}
use lib.Dec.{leb, ltb}
use borrow.Author.Tests.{leb-true, ltb-true, ltb-false, le-leb, lt-ltb, le-ltb}
use Rattle.text.specs.Text.{digit, decimal_in, decimal, placed}
use Rattle.text.specs.Claims.{read_on, DecimalReadsBack}
use Rattle.text.specs.Reading.{all_digits, no_leading_zero, spelled, DigitsAreDecimal}
use Rattle.text.proofs.Placing.{length-placed, placed_after, stored}

-- ---- n steps are enough for n, so the text follows the rule without a bound of steps

in_small : (k n : ℕ) → n < 10 → decimal_in k n ≡ digit n ∷ []
unfolding decimal_in
in_small zero n h = refl
in_small (suc k) n h = rw (lt-ltb n 10 h)

in_more : (k n : ℕ) → 10 ≤ n → decimal_in (suc k) n ≡ decimal_in k (n / 10) ++ (digit (n % 10) ∷ [])
unfolding decimal_in
in_more k n h = rw (le-ltb n 10 h)

enough : (k m n : ℕ) → n ≤ k → n ≤ m → decimal_in k n ≡ decimal_in m n
enough zero m n h g = in_small zero n (omega arith) ∙ sym (in_small m n (omega arith))
enough (suc k) zero n h g = in_small (suc k) n (omega arith) ∙ sym (in_small zero n (omega arith))
enough (suc k) (suc m) n h g = go (ltb n 10) refl (λ i j. enough k m (n / 10) i j)
  where
    go : (b : Bool) → ltb n 10 ≡ b → (n / 10 ≤ k → n / 10 ≤ m → decimal_in k (n / 10) ≡ decimal_in m (n / 10))
        → decimal_in (suc k) n ≡ decimal_in (suc m) n
    go true e ih = in_small (suc k) n (ltb-true n 10 e) ∙ sym (in_small (suc m) n (ltb-true n 10 e))
    go false e ih =
        let l = ltb-false n 10 e in
        in_more k n l ∙ (ap (λ (s : List ℕ). s ++ (digit (n % 10) ∷ [])) (ih (omega arith) (omega arith)) ∙ sym (in_more m n l))

pub decimal_small : (n : ℕ) → n < 10 → decimal n ≡ digit n ∷ []
unfolding decimal
decimal_small n h = in_small n n h

pub decimal_more : (n : ℕ) → 10 ≤ n → decimal n ≡ decimal (n / 10) ++ (digit (n % 10) ∷ [])
unfolding decimal
decimal_more zero h = absurd (omega arith)
decimal_more (suc k) h =
    in_more k (suc k) h
    ∙ ap (λ (s : List ℕ). s ++ (digit (suc k % 10) ∷ [])) (enough k (suc k / 10) (suc k / 10) (omega arith) (omega arith))

-- what holds of each digit, and of a number where it holds of its tenth part
by_digits : (P : ℕ → Type 0) → ((n : ℕ) → n < 10 → P n) → ((n : ℕ) → 10 ≤ n → P (n / 10) → P n) → (n : ℕ) → P n
by_digits P small more n = within n n (omega arith)
  where
    within : (k n : ℕ) → n ≤ k → P n
    within zero n h = small n (omega arith)
    within (suc k) n h = go (ltb n 10) refl (within k (n / 10))
      where
        go : (b : Bool) → ltb n 10 ≡ b → (n / 10 ≤ k → P (n / 10)) → P n
        go true e ih = small n (ltb-true n 10 e)
        go false e ih = more n (ltb-false n 10 e) (ih (omega (arith, ltb-false n 10 e)))

-- ---- its length

pub length_small : (n : ℕ) → n < 10 → length (decimal n) ≡ 1
length_small n h = ap length (decimal_small n h)

pub length_more : (n : ℕ) → 10 ≤ n → length (decimal n) ≡ length (decimal (n / 10)) + 1
length_more n h = ap length (decimal_more n h) ∙ length-append (decimal (n / 10)) (digit (n % 10) ∷ [])

-- a number from 10 ^ k up to 10 ^ (k + 1) has k + 1 digits
length_by_power : (n k : ℕ) → 10 ^ k ≤ n → n < 10 * 10 ^ k → length (decimal n) ≡ k + 1
length_by_power n zero h l = omega (arith, length_small n (omega arith))
length_by_power n (suc k) h l =
    let p : 10 ^ suc k ≡ 10 * 10 ^ k = omega arith in
    omega (arith, length_more n (omega arith), length_by_power (n / 10) k (omega arith) (omega arith))

-- and 0 has as many as 1
pub length_by_log : (n k : ℕ) → 10 ^ k ≤ max n 1 → max n 1 < 10 * 10 ^ k → k + 1 ≡ length (decimal n)
length_by_log zero k h l = omega (arith, length_by_power 1 k (omega arith) (omega arith), length_small 0 (omega arith), length_small 1 (omega arith))
length_by_log (suc n) k h l = omega (arith, length_by_power (suc n) k (omega arith) (omega arith))

-- a number below 10 ^ (k + 1) has k + 1 digits at most
few_digits : (k n : ℕ) → n < 10 * 10 ^ k → length (decimal n) ≤ k + 1
few_digits zero n h = omega (arith, length_small n (omega arith))
few_digits (suc k) n h = go (ltb n 10) refl (few_digits k (n / 10))
  where
    go : (b : Bool) → ltb n 10 ≡ b → (n / 10 < 10 * 10 ^ k → length (decimal (n / 10)) ≤ k + 1) → length (decimal n) ≤ suc k + 1
    go true e ih = omega (arith, length_small n (ltb-true n 10 e))
    go false e ih =
        let p : 10 ^ suc k ≡ 10 * 10 ^ k = omega arith in
        omega (arith, length_more n (ltb-false n 10 e), ih (omega arith))

pub u64_digits : (n : ℕ) → n < 2 ^ 64 → length (decimal n) ≤ 20
u64_digits n h = few_digits 19 n (omega arith)

-- ---- put into a buffer, its last digit last

pub put_digit : (buf : List ℕ) (a n : ℕ) → n < 10 → a + length (decimal n) ≤ length buf → set buf a (digit n) ≡ placed buf a (decimal n)
put_digit buf a n h l = rw (decimal_small n h) (stored buf a (digit n) (omega (arith, length_small n h)))

pub put_last : (buf : List ℕ) (a n : ℕ) (b : List ℕ) (e d : ℕ) → 10 ≤ n → a + length (decimal n) ≤ length buf
    → b ≡ placed buf a (decimal (n / 10)) → e ≡ a + length (decimal (n / 10)) → d ≡ digit (n % 10)
    → set b e d ≡ placed buf a (decimal n)
put_last buf a n b e d h l p q r =
    let s = decimal (n / 10) in
    let m = length_more n h in
    let k = length-placed buf a s (omega arith) in
    rw (p, q, r) (stored (placed buf a s) (a + length s) (digit (n % 10)) (omega arith))
    ∙ (placed_after buf a s (digit (n % 10) ∷ []) (omega arith) ∙ ap (placed buf a) (sym (decimal_more n h)))

-- ---- it reads back

read_last : (n : ℕ) (s : List ℕ) (d : ℕ) → read_on n (s ++ (d ∷ [])) ≡ 10 * read_on n s + (d - digit 0)
unfolding read_on
read_last n [] d = refl
read_last n (x ∷ s) d = read_last (10 * n + (x - digit 0)) s d

number_back : (n : ℕ) → read_on 0 (decimal n) ≡ n
unfolding read_on
number_back = by_digits (λ n. read_on 0 (decimal n) ≡ n) small more
  where
    small : (n : ℕ) → n < 10 → read_on 0 (decimal n) ≡ n
    small n h = ap (read_on 0) (decimal_small n h) ∙ omega arith

    more : (n : ℕ) → 10 ≤ n → read_on 0 (decimal (n / 10)) ≡ n / 10 → read_on 0 (decimal n) ≡ n
    more n h ih = ap (read_on 0) (decimal_more n h) ∙ (read_last 0 (decimal (n / 10)) (digit (n % 10)) ∙ omega arith)

pub some_digit : (n : ℕ) → 1 ≤ length (decimal n)
some_digit = by_digits (λ n. 1 ≤ length (decimal n)) (λ n h. omega (arith, length_small n h)) (λ n h ih. omega (arith, length_more n h))

-- ---- it is digits alone

and_yes : (a b : Bool) → a ≡ true → b ≡ true → (a && b) ≡ true
and_yes a b h k = rw (h, k)

and_first : (a b : Bool) → (a && b) ≡ true → a ≡ true
and_first true b h = refl
and_first false b h = h

and_second : (a b : Bool) → (a && b) ≡ true → b ≡ true
and_second true b h = h
and_second false b h = cc

is_digit : (d : ℕ) → d < 10 → (leb (digit 0) (digit d) && leb (digit d) (digit 9)) ≡ true
is_digit d h = rw (le-leb (digit 0) (digit d) (omega arith), le-leb (digit d) (digit 9) (omega arith))

digits_append : (s t : List ℕ) → all_digits s ≡ true → all_digits t ≡ true → all_digits (s ++ t) ≡ true
unfolding all_digits
digits_append [] t h k = k
digits_append (d ∷ s) t h k =
    let b = leb (digit 0) d && leb d (digit 9) in
    and_yes b (all_digits (s ++ t)) (and_first b (all_digits s) h) (digits_append s t (and_second b (all_digits s) h) k)

one_digit : (d : ℕ) → d < 10 → all_digits (digit d ∷ []) ≡ true
unfolding all_digits
one_digit d h = rw (is_digit d h)

pub digits_alone : (n : ℕ) → all_digits (decimal n) ≡ true
digits_alone = by_digits (λ n. all_digits (decimal n) ≡ true) small more
  where
    small : (n : ℕ) → n < 10 → all_digits (decimal n) ≡ true
    small n h = ap all_digits (decimal_small n h) ∙ one_digit n h

    more : (n : ℕ) → 10 ≤ n → all_digits (decimal (n / 10)) ≡ true → all_digits (decimal n) ≡ true
    more n h ih =
        ap all_digits (decimal_more n h)
        ∙ digits_append (decimal (n / 10)) (digit (n % 10) ∷ []) ih (one_digit (n % 10) (omega arith))

-- each byte of the text is one of a digit
each_digit : (n i : ℕ) → i < length (decimal n) → (digit 0 ≤ get_or (decimal n) i 0) × (get_or (decimal n) i 0 ≤ digit 9)
each_digit = by_digits Digits small more
  where
    Digits : ℕ → Type 0
    Digits n = (i : ℕ) → i < length (decimal n) → (digit 0 ≤ get_or (decimal n) i 0) × (get_or (decimal n) i 0 ≤ digit 9)

    small : (n : ℕ) → n < 10 → Digits n
    small n h i l =
        let e : i ≡ 0 = omega (arith, length_small n h) in
        rw (decimal_small n h, e) (omega arith, omega arith)

    more : (n : ℕ) → 10 ≤ n → Digits (n / 10) → Digits n
    more n h ih i l = go (ltb i (length (decimal (n / 10)))) refl
      where
        go : (b : Bool) → ltb i (length (decimal (n / 10))) ≡ b → (digit 0 ≤ get_or (decimal n) i 0) × (get_or (decimal n) i 0 ≤ digit 9)
        go true e =
            let k = ltb-true i (length (decimal (n / 10))) e in
            rw (decimal_more n h, get_or-append (decimal (n / 10)) (digit (n % 10) ∷ []) 0 i k) (ih i k)
        go false e =
            let k : i ≡ length (decimal (n / 10)) = omega (arith, length_more n h, ltb-false i (length (decimal (n / 10))) e) in
            rw (decimal_more n h, k, get_or-append_seam (decimal (n / 10)) (digit (n % 10)) [] 0) (omega arith, omega arith)

-- ---- a number other than 0 does not begin with `0`

first_digit : (n : ℕ) → 1 ≤ n → digit 1 ≤ get_or (decimal n) 0 0
first_digit = by_digits (λ n. 1 ≤ n → digit 1 ≤ get_or (decimal n) 0 0) small more
  where
    small : (n : ℕ) → n < 10 → 1 ≤ n → digit 1 ≤ get_or (decimal n) 0 0
    small n h l = rw (decimal_small n h) (omega arith)

    more : (n : ℕ) → 10 ≤ n → (1 ≤ n / 10 → digit 1 ≤ get_or (decimal (n / 10)) 0 0) → 1 ≤ n → digit 1 ≤ get_or (decimal n) 0 0
    more n h ih l =
        rw (decimal_more n h, get_or-append (decimal (n / 10)) (digit (n % 10) ∷ []) 0 0 (some_digit (n / 10))) (ih (omega arith))

-- of bytes that do not begin with `0`, or of one byte
begins : (s : List ℕ) → 1 ≤ length s → (2 ≤ length s → digit 1 ≤ get_or s 0 0) → no_leading_zero s ≡ true
unfolding no_leading_zero
begins [] h k = absurd (omega arith)
begins (d ∷ []) h k = refl
begins (d ∷ e ∷ s) h k = lt-ltb (digit 0) d (omega (arith, k (omega arith)))

two_or_more : (n : ℕ) → 2 ≤ length (decimal n) → 1 ≤ n
two_or_more =
    by_digits (λ n. 2 ≤ length (decimal n) → 1 ≤ n) (λ n l h. absurd (omega (arith, length_small n l))) (λ n l ih h. omega arith)

pub reads_back : DecimalReadsBack
reads_back n = record {
  number = number_back n;
  digits = each_digit n;
  some = some_digit n;
  fewest = λ h. first_digit n (two_or_more n h);
}

-- the text of a number is spelled as one
pub spelled_back : (n : ℕ) → spelled (decimal n) ≡ true
spelled_back n =
    and_yes (all_digits (decimal n)) (no_leading_zero (decimal n)) (digits_alone n) (begins (decimal n) (some_digit n) (λ h. first_digit n (two_or_more n h)))

-- ---- digits are the text of the number that they read as

head_digit : (d : ℕ) (ds : List ℕ) → all_digits (d ∷ ds) ≡ true → (digit 0 ≤ d) × (d ≤ digit 9)
unfolding all_digits
head_digit d ds h =
    let b = and_first (leb (digit 0) d && leb d (digit 9)) (all_digits ds) h in
    (leb-true (digit 0) d (and_first (leb (digit 0) d) (leb d (digit 9)) b), leb-true d (digit 9) (and_second (leb (digit 0) d) (leb d (digit 9)) b))

tail_digits : (d : ℕ) (ds : List ℕ) → all_digits (d ∷ ds) ≡ true → all_digits ds ≡ true
unfolding all_digits
tail_digits d ds h = and_second (leb (digit 0) d && leb d (digit 9)) (all_digits ds) h

-- one digit after a number other than 0
one_more : (n d : ℕ) → 1 ≤ n → digit 0 ≤ d → d ≤ digit 9 → decimal (10 * n + (d - digit 0)) ≡ decimal n ++ (d ∷ [])
one_more n d h l m =
    let x = 10 * n + (d - digit 0) in
    let q : x / 10 ≡ n = omega arith in
    let r : digit (x % 10) ≡ d = omega arith in
    decimal_more x (omega arith) ∙ (ap (λ (k : ℕ). decimal k ++ (digit (x % 10) ∷ [])) q ∙ ap (λ (k : ℕ). decimal n ++ (k ∷ [])) r)

all_more : (n : ℕ) (ds : List ℕ) → 1 ≤ n → all_digits ds ≡ true → decimal (read_on n ds) ≡ decimal n ++ ds
unfolding read_on
all_more n [] h k = sym (append-nil (decimal n))
all_more n (d ∷ ds) h k =
    let b = head_digit d ds k in
    all_more (10 * n + (d - digit 0)) ds (omega arith) (tail_digits d ds k)
    ∙ (ap (λ (s : List ℕ). s ++ ds) (one_more n d h b.0 b.1) ∙ append_assoc (decimal n) (d ∷ []) ds)

pub spelled_again : DigitsAreDecimal
unfolding read_on no_leading_zero
spelled_again [] h = absurd (let z : ◌≡◌ {A = Bool} false true = and_second (all_digits []) false h in let w : ◌≡◌ {A = ℕ} 0 1 = cc in omega arith)
spelled_again (d ∷ []) h =
    let b = head_digit d [] (and_first (all_digits (d ∷ [])) true h) in
    let e : digit (d - digit 0) ≡ d = omega arith in
    ap decimal (first d) ∙ (decimal_small (d - digit 0) (omega arith) ∙ ap (λ (k : ℕ). k ∷ []) e)
  where
    first : (d : ℕ) → 10 * 0 + (d - digit 0) ≡ d - digit 0
    first d = omega arith
spelled_again (d ∷ e ∷ ds) h =
    let k = and_first (all_digits (d ∷ e ∷ ds)) (ltb (digit 0) d) h in
    let l = ltb-true (digit 0) d (and_second (all_digits (d ∷ e ∷ ds)) (ltb (digit 0) d) h) in
    let b = head_digit d (e ∷ ds) k in
    let f : 10 * 0 + (d - digit 0) ≡ d - digit 0 = omega arith in
    let g : digit (d - digit 0) ≡ d = omega arith in
    ap (λ (n : ℕ). decimal (read_on n (e ∷ ds))) f
    ∙ (all_more (d - digit 0) (e ∷ ds) (omega arith) (tail_digits d (e ∷ ds) k)
    ∙ (ap (λ (s : List ℕ). s ++ (e ∷ ds)) (decimal_small (d - digit 0) (omega arith)) ∙ ap (λ (n : ℕ). n ∷ e ∷ ds) g))
