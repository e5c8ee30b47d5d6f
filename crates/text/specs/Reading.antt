-- Digits read as the number whose decimal text they are (scope-2, lines-3). Choice (docs/DECISIONS.md, "Statement"):
-- figures. Assumes nothing.
use Rattle.std.specs.Prelude.{ℕ, ◌≡◌, min, Bool, true, false, ◌&&◌, List, [], ◌∷◌, leb, ltb}
use Rattle.text.specs.declared.Figure.{Figure}
use Rattle.text.specs.Text.{digit, decimal}
use Rattle.text.specs.Claims.{read_on}

-- lines-3: nothing but digits
unfoldable pub all_digits : List ℕ → Bool
all_digits [] = true
all_digits (d ∷ ds) = (leb (digit 0) d && leb d (digit 9)) && all_digits ds

-- lines-3: one byte at least, and of two or more the first is not `0`
unfoldable pub no_leading_zero : List ℕ → Bool
no_leading_zero [] = false
no_leading_zero (d ∷ []) = true
no_leading_zero (d ∷ e ∷ ds) = ltb (digit 0) d

-- lines-3: bytes that are the decimal text of a number
abbrev pub spelled : List ℕ → Bool
spelled ds = all_digits ds && no_leading_zero ds

-- aid: what bytes read as, held at 4,294,967,296, which is above every word; and whether they are a number's text
unfoldable pub figure_of : List ℕ → Figure
figure_of ds = record { value = min (read_on 0 ds) 4294967296; right = spelled ds }

-- lines-3: digits, one at least, without a `0` in front of others are the text of the number that they read as
abbrev pub DigitsAreDecimal : Type 0
DigitsAreDecimal = (ds : List ℕ) → spelled ds ≡ true → decimal (read_on 0 ds) ≡ ds
