-- Length, sum and table of a file, whose bytes are the list f (file-2 to file-6, refusal-10 to refusal-12). Choices
-- (docs/DECISIONS.md, "Trip file"): section of length 0; start and length; a table that does not fit in the file;
-- length. Assumes nothing.
use Rattle.std.specs.Prelude.{ℕ, zero, suc, ◌+◌, ◌*◌, ◌%◌, Bool, true, ◌&&◌, not, List, [], ◌∷◌, length, leb, eqb, Result, ⊤}
use Rattle.words.specs.Words.{word, wrapped_sum}
use Rattle.tariff.specs.Tests.{Reason, because, verdict_of}
use Rattle.tariff.specs.declared.Refusal.{Refusal}
use Rattle.tariff.specs.declared.Refusal.TheVariants.{FileLength, FileSum, FileTable}

-- refusal-10, file-2: the length is as it has to be
unfoldable pub length_right : List ℕ → Bool
length_right f = leb 12 (length f) && leb (length f) 65536 && eqb (length f % 4) 0 && eqb (word f 0) (length f)

-- refusal-11, file-3: the words add up to 0
unfoldable pub sum_right : List ℕ → Bool
sum_right f = eqb (wrapped_sum f) 0

-- file-4: the number of sections, c
abbrev pub section_count : List ℕ → ℕ
section_count f = word f 2

-- file-5: the kind of entry i, from 0
abbrev pub kind_at : List ℕ → ℕ → ℕ
kind_at f i = word f (3 + 3 * i)

-- file-5: its start
abbrev pub start_at : List ℕ → ℕ → ℕ
start_at f i = word f (4 + 3 * i)

-- file-5: its length
abbrev pub length_at : List ℕ → ℕ → ℕ
length_at f i = word f (5 + 3 * i)

-- file-6: where body i has to start, exact, without wrapping
unfoldable pub body_start : List ℕ → ℕ → ℕ
body_start f zero = 12 + 12 * section_count f
body_start f (suc i) = body_start f i + length_at f i

-- file-6: the first n bodies start where they have to, with lengths in whole words
unfoldable pub follow_to : List ℕ → ℕ → Bool
follow_to f zero = true
follow_to f (suc i) = follow_to f i && eqb (start_at f i) (body_start f i) && eqb (length_at f i % 4) 0

-- refusal-12, file-4, file-6: count and table keep their rules
unfoldable pub table_right : List ℕ → Bool
table_right f =
    leb 1 (section_count f) && leb (section_count f) 8 && leb (12 + 12 * section_count f) (length f)
    && (follow_to f (section_count f) && eqb (body_start f (section_count f)) (length f))

-- order-4, refusal-10, refusal-11, refusal-12: what Read and finding share
unfoldable pub file_reasons : List ℕ → List Reason
file_reasons f =
    because FileLength (not (length_right f))
    ∷ because FileSum (not (sum_right f))
    ∷ because FileTable (not (table_right f))
    ∷ []

-- order-1: the first of these that holds
unfoldable pub file_verdict : List ℕ → Result ⊤ Refusal
file_verdict f = verdict_of (file_reasons f)
