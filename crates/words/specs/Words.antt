-- Words of a list of bytes, and their wrapping sum (file-1, file-3, form-2). Choice (docs/DECISIONS.md, "Trip file"):
-- the wrapping sum. Assumes nothing.
use Rattle.std.specs.Prelude.{ℕ, zero, suc, ◌+◌, ◌-◌, ◌*◌, ◌/◌, ◌%◌, ◌^◌, ◌<◌, List, [], ◌∷◌, ◌++◌, length, take, drop, slice_index, slice_index_or}

-- file-1: word number i, the lowest byte first
abbrev pub word : List ℕ → ℕ → ℕ
word s i = slice_index s (4 * i) + 256 * slice_index s (4 * i + 1) + 65536 * slice_index s (4 * i + 2) + 16777216 * slice_index_or s
    (4 * i + 3) 0

-- file-1: the four bytes of a word
abbrev pub word_bytes : ℕ → List ℕ
word_bytes w = w % 256 ∷ w / 256 % 256 ∷ w / 65536 % 256 ∷ w / 16777216 % 256 ∷ []

-- file-1: the bytes of words in turn
unfoldable pub bytes_of : List ℕ → List ℕ
bytes_of [] = []
bytes_of (w ∷ ws) = word_bytes w ++ bytes_of ws

-- aid: the bytes with w as word number i, the others as they were
abbrev pub with_word : List ℕ → ℕ → ℕ → List ℕ
with_word s i w = take (4 * i) s ++ (word_bytes w ++ drop (4 * i + 4) s)

-- file-3: the sum of the first n words, exact
unfoldable pub sum_to : List ℕ → ℕ → ℕ
sum_to s zero = 0
sum_to s (suc n) = sum_to s n + word s n

-- file-3, refusal-11, form-2: the sum of all words, modulo 2^32
unfoldable pub wrapped_sum : List ℕ → ℕ
wrapped_sum s = sum_to s (length s / 4) % 2 ^ 32

-- file-3, form-2: the word that brings a sum of t to 0
abbrev pub closing_word : ℕ → ℕ
closing_word t = (2 ^ 32 - t % 2 ^ 32) % 2 ^ 32

-- aid: the exact sum of a list of words
unfoldable pub total : List ℕ → ℕ
total [] = 0
total (w ∷ ws) = w + total ws

-- aid: what a slice of u32 tells of its elements
abbrev pub Words : List ℕ → Type 0
Words ws = (i : ℕ) → slice_index ws i < 2 ^ 32

-- aid: the same of a slice of bytes
abbrev pub Bytes : List ℕ → Type 0
Bytes bs = (i : ℕ) → slice_index bs i < 256
