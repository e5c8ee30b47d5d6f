-- Finding a section (find-1, find-2, refusal-13). Choices (docs/DECISIONS.md, "Trip file"): finding; other kinds.
-- Assumes nothing.
use Rattle.std.specs.Prelude.{ℕ, zero, suc, ◌+◌, Bool, true, false, cond, not, List, [], ◌∷◌, ◌++◌, take, drop, eqb, Result, Ok, Err, ⊤}
use Rattle.tariff.specs.Tests.{Reason, because, verdict_of}
use Rattle.sections.specs.declared.Extent.{Extent}
use Rattle.sections.specs.Table.{section_count, kind_at, start_at, length_at, file_reasons}
use Rattle.tariff.specs.declared.Refusal.{Refusal}
use Rattle.tariff.specs.declared.Refusal.TheVariants.{NotOnce}

-- aid to `times_to`: 1 where a test passes
abbrev pub one_if : Bool → ℕ
one_if true = 1
one_if false = 0

-- refusal-13: how many of the first n entries are of kind k
unfoldable pub times_to : List ℕ → ℕ → ℕ → ℕ
times_to f k zero = 0
times_to f k (suc i) = times_to f k i + one_if (eqb (kind_at f i) k)

-- find-1: the last of the first n entries that is of kind k; 0 where none is
unfoldable pub entry_to : List ℕ → ℕ → ℕ → ℕ
entry_to f k zero = 0
entry_to f k (suc i) = cond (eqb (kind_at f i) k) i (entry_to f k i)

-- refusal-13: the kind is there once
unfoldable pub just_once : List ℕ → ℕ → Bool
just_once f k = eqb (times_to f k (section_count f)) 1

-- file-5: the bytes that entry i names
abbrev pub body_at : List ℕ → ℕ → List ℕ
body_at f i = take (length_at f i) (drop (start_at f i) f)

-- find-1: the bytes that the entry of kind k names
unfoldable pub part_of : List ℕ → ℕ → List ℕ
part_of f k = body_at f (entry_to f k (section_count f))

-- order-4, refusal-13: of finding, those of the whole file and then 13
unfoldable pub find_reasons : List ℕ → ℕ → List Reason
find_reasons f k = file_reasons f ++ (because NotOnce (not (just_once f k)) ∷ [])

-- find-2, order-1: the number that declines it, or accepted
unfoldable pub find_verdict : List ℕ → ℕ → Result ⊤ Refusal
find_verdict f k = verdict_of (find_reasons f k)

-- find-1: the part, or an empty one on a refusal
abbrev pub or_nothing : Result ⊤ Refusal → List ℕ → List ℕ
or_nothing (Ok tt) part = part
or_nothing (Err n) part = []

-- find-1, form-4: the bytes that finding hands back
unfoldable pub section_of : List ℕ → ℕ → List ℕ
section_of f k = or_nothing (find_verdict f k) (part_of f k)

-- file-5, find-1: where in the file those bytes begin
unfoldable pub part_start : List ℕ → ℕ → ℕ
part_start f k = start_at f (entry_to f k (section_count f))

-- file-5: how many there are
unfoldable pub part_length : List ℕ → ℕ → ℕ
part_length f k = length_at f (entry_to f k (section_count f))

-- aid: both, as the file's entry has them
abbrev pub part_extent : List ℕ → ℕ → Extent
part_extent f k = record { start = part_start f k; length = part_length f k }

-- find-1: an empty part stands at the file's first byte
abbrev pub or_first : Result ⊤ Refusal → ℕ → ℕ
or_first (Ok tt) n = n
or_first (Err r) n = 0

-- find-1, form-4: how many bytes of the lent file stand before the part
unfoldable pub section_start : List ℕ → ℕ → ℕ
section_start f k = or_first (find_verdict f k) (part_start f k)
