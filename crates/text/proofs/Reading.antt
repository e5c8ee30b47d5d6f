-- Laws of digits that are read byte by byte. Assumes nothing.
use mathlib.Core.Path.{◌≡◌, refl, sym, ◌∙◌, ap}
use Prim.Native.Nat.{ℕ, suc, ◌+◌, ◌-◌, ◌*◌, ◌≤◌, ◌<◌, min}
use mathlib.Core.Bool.{Bool, true, false, ◌&&◌}
use mathlib.Core.List.{List, [], ◌∷◌}
use native.Mathlib.Numerals.{add-one}
use native.Mathlib.Omega.{arith}
use lib.ListN.{length, get_or, drop, drop_of_length-le}
use lib.Seq.{drop-cons}
use lib.Dec.{leb}
use Rattle.text.specs.Text.{digit}
use Rattle.text.specs.Claims.{read_on}
use Rattle.text.specs.declared.Figure.{Figure}
use Rattle.text.specs.Reading.{all_digits, no_leading_zero, figure_of}

-- a figure of a value and whether it is right
abbrev pub figure : ℕ → Bool → Figure
figure v r = record { value = v; right = r }

-- the largest number that is told from larger ones
abbrev pub held : ℕ → ℕ
held n = min n 4294967296

-- what is read after a number that is held is the same, held
pub held_on : (n m : ℕ) (ds : List ℕ) → held n ≡ held m → held (read_on n ds) ≡ held (read_on m ds)
unfolding read_on
held_on n m [] h = h
held_on n m (d ∷ ds) h = held_on (10 * n + (d - digit 0)) (10 * m + (d - digit 0)) ds (omega arith)

pub value_more : (ds : List ℕ) (n i : ℕ) → i < length ds
    → held (read_on (held (10 * n + (get_or ds i 0 - 48))) (drop (i + 1) ds)) ≡ held (read_on n (drop i ds))
unfolding read_on
value_more ds n i h =
    rw (add-one i, drop-cons ds i 0 h)
    (held_on (held (10 * n + (get_or ds i 0 - 48))) (10 * n + (get_or ds i 0 - 48)) (drop (suc i) ds) (omega arith))

pub value_all : (ds : List ℕ) (n i : ℕ) → length ds ≤ i → read_on n (drop i ds) ≡ n
unfolding read_on
value_all ds n i h = ap (read_on n) (drop_of_length-le ds h)

and_assoc : (a b c : Bool) → ((a && b) && c) ≡ (a && (b && c))
and_assoc true b c = refl
and_assoc false b c = refl

pub digits_more : (ds : List ℕ) (r : Bool) (i : ℕ) → i < length ds
    → ((r && (leb (digit 0) (get_or ds i 0) && leb (get_or ds i 0) (digit 9))) && all_digits (drop (i + 1) ds)) ≡ (r && all_digits (drop i ds))
unfolding all_digits
digits_more ds r i h =
    rw (add-one i, drop-cons ds i 0 h)
    (and_assoc r (leb (digit 0) (get_or ds i 0) && leb (get_or ds i 0) (digit 9)) (all_digits (drop (suc i) ds)))

pub digits_end : (ds : List ℕ) (r : Bool) (i : ℕ) → length ds ≤ i → (r && all_digits (drop i ds)) ≡ r
unfolding all_digits
digits_end ds r i h = ap (λ (x : List ℕ). r && all_digits x) (drop_of_length-le ds h) ∙ and-true r
  where
    and-true : (r : Bool) → (r && true) ≡ r
    and-true true = refl
    and-true false = refl

-- what is known where all bytes are read, with whether they begin as a number's text does
pub figure_read : (ds : List ℕ) (v : ℕ) (r : Bool) (i : ℕ) → length ds ≤ i → v ≤ 4294967296
    → held (read_on v (drop i ds)) ≡ held (read_on 0 ds) → (r && all_digits (drop i ds)) ≡ all_digits ds
    → figure v (r && no_leading_zero ds) ≡ figure_of ds
unfolding figure_of
figure_read ds v r i h w e f =
    let value : v ≡ held (read_on 0 ds) = omega (arith, value_all ds v i h, e) in
    let right : r ≡ all_digits ds = sym (digits_end ds r i h) ∙ f in
    rw (value, right)
