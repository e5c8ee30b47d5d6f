-- What is claimed of the decimal text of a number (scope-2). Choice (docs/DECISIONS.md, "Statement"): figures. Assumes
-- nothing.
use Rattle.std.specs.Prelude.{ℕ, ◌+◌, ◌-◌, ◌*◌, ◌≤◌, ◌<◌, ◌≡◌, List, [], ◌∷◌, length, get_or}
use Rattle.text.specs.Text.{digit, decimal}

-- aid: digits read from the first on, after others that came to n
unfoldable pub read_on : ℕ → List ℕ → ℕ
read_on n [] = n
read_on n (d ∷ ds) = read_on (10 * n + (d - digit 0)) ds

-- scope-2: the text of n reads as n, in digits, one at least; of two or more the first is not `0`
pub record ReadsBack (n : ℕ) : Type 0 where
  pub number : read_on 0 (decimal n) ≡ n
  pub digits : (i : ℕ) → i < length (decimal n) → (digit 0 ≤ get_or (decimal n) i 0) × (get_or (decimal n) i 0 ≤ digit 9)
  pub some : 1 ≤ length (decimal n)
  pub fewest : 2 ≤ length (decimal n) → digit 1 ≤ get_or (decimal n) 0 0

-- scope-2: so it is with every number
abbrev pub DecimalReadsBack : Type 0
DecimalReadsBack = (n : ℕ) → ReadsBack n
