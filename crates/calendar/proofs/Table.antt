-- One computed test over a table gives the tested rule at each of its entries. Holds for any table of numbers.
-- Assumes nothing.
use mathlib.Core.Path.{◌∙◌, sym, subst}
use mathlib.Core.Bool.{Bool, true, false, ◌&&◌}
use mathlib.Core.List.{List, [], ◌∷◌}
use Prim.Native.Nat.{ℕ, zero, suc, ◌+◌, ◌<◌}
use native.Mathlib.Nat.{add-zero, zero-add, add-suc, suc-add, le_of_suc-le-suc, not-suc-le-zero}
use lib.Dec.{T}
use lib.ListN.{length, get_or}

-- the test passes at every entry, given its place, where the first entry's place is i
abbrev pub all_from : (ℕ → ℕ → Bool) → ℕ → List ℕ → Bool
all_from test i [] = true
all_from test i (x ∷ xs) = test i x && all_from test (suc i) xs

first_part : (a b : Bool) → T (a && b) → T a
first_part true b t = tt
first_part false b t = t

second_part : (a b : Bool) → T (a && b) → T b
second_part true b t = t
second_part false b t = absurd t

entry_from : (test : ℕ → ℕ → Bool) (xs : List ℕ) (i : ℕ) → T (all_from test i xs) → (k : ℕ) → k < length xs → T (test (i + k) (get_or xs k 0))
entry_from test [] i t k h = absurd (not-suc-le-zero h)
entry_from test (x ∷ xs) i t zero h =
    subst (λ (m : ℕ). T (test m x)) (sym (add-zero i)) (first_part (test i x) (all_from test (suc i) xs) t)
entry_from test (x ∷ xs) i t (suc k) h =
    subst (λ (m : ℕ). T (test m (get_or xs k 0))) (suc-add i k ∙ sym (add-suc i k))
    (entry_from test xs (suc i) (second_part (test i x) (all_from test (suc i) xs) t) k (le_of_suc-le-suc h))

-- the test of the whole table, at its entry k
pub entry : (test : ℕ → ℕ → Bool) (xs : List ℕ) → T (all_from test 0 xs) → (k : ℕ) → k < length xs → T (test k (get_or xs k 0))
entry test xs t k h = subst (λ (m : ℕ). T (test m (get_or xs k 0))) (zero-add k) (entry_from test xs 0 t k h)
