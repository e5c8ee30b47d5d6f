-- Text as a list of bytes, numbers in decimal, and text in a buffer (scope-2, statement-1). Choice (docs/DECISIONS.md,
-- "Statement"): figures. Assumes nothing.
use Rattle.std.specs.Prelude.{ℕ, zero, suc, ◌+◌, ◌/◌, ◌%◌, cond, List, [], ◌∷◌, ◌++◌, length, take, drop, ltb}
use Prim.Native.Char.{code}
use Prim.Native.String.{String, [] as nothing, ◌∷◌ as ◌then◌}

-- aid: the bytes of a quoted text, the code of each of its characters, which are all of ASCII here
abbrev pub ascii : String → List ℕ
ascii nothing = []
ascii (c then s) = code c ∷ ascii s

-- aid: the byte of a digit: 48 is `0`, and the others follow
abbrev pub digit : ℕ → ℕ
digit d = 48 + d

-- scope-2: a number below 10 is one digit, any other its tenth part and then the last digit; k bounds the steps
unfoldable pub decimal_in : ℕ → ℕ → List ℕ
decimal_in zero n = digit n ∷ []
decimal_in (suc k) n = cond (ltb n 10) (digit n ∷ []) (decimal_in k (n / 10) ++ (digit (n % 10) ∷ []))

-- scope-2: a number in base ten. Law: it reads back, in digits, without a 0 in front (`DecimalReadsBack`)
unfoldable pub decimal : ℕ → List ℕ
decimal n = decimal_in n n

-- aid: the buffer with the text s from place a on, and every other byte as it was
unfoldable pub placed : List ℕ → ℕ → List ℕ → List ℕ
placed buf a s = take a buf ++ (s ++ drop (a + length s) buf)
