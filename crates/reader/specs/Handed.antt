-- What a reader hands out when it is asked again and again (reader-1, reader-2). Choice (docs/DECISIONS.md, "Trip
-- file"): the reader. Assumes nothing.
use Rattle.std.specs.Prelude.{◌≡◌, ℕ, zero, suc, ◌+◌, ◌*◌, ◌/◌, List, [], ◌∷◌, ◌++◌, length, replicate, Option, Some, None}
use Rattle.words.specs.Words.{word}
use Rattle.reader.specs.declared.CodedCall.{CodedCall}
use Rattle.reader.specs.Calls.{decoded, position_after}

-- reader-1: what n times `next` hands out from a position on
unfoldable pub handed_from : List ℕ → ℕ → ℕ → List (Option CodedCall)
handed_from s at zero = []
handed_from s at (suc n) = decoded s at ∷ handed_from s (position_after s at) n

-- reader-1: where the reader then stands
unfoldable pub stands_after : List ℕ → ℕ → ℕ → ℕ
stands_after s at zero = at
stands_after s at (suc n) = stands_after s (position_after s at) n

-- file-8: the first n calls of a section in order
unfoldable pub first_steps : List ℕ → ℕ → List (Option CodedCall)
first_steps s zero = []
first_steps s (suc n) = first_steps s n ++ (Some (record { code = word s (2 * n); number = word s (2 * n + 1) }) ∷ [])

-- reader-1, reader-2: all calls of the section in order and then none, however often it is asked
abbrev pub HandsOutCalls : Type 0
HandsOutCalls = (s : List ℕ) (more : ℕ)
    → (handed_from s 0 (length s / 8 + more) ≡ first_steps s (length s / 8) ++ replicate more None)
    × (stands_after s 0 (length s / 8 + more) ≡ 8 * (length s / 8))
