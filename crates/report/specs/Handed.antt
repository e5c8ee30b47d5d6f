-- What a reader hands out of a file that is read (reader-1, file-8). No choice matters here. Assumes nothing.
use Rattle.std.specs.Prelude.{◌≡◌, ℕ, ◌+◌, List, [], ◌∷◌, ◌++◌, length, replicate, Option, Some, None, Ok}
use Rattle.tariff.specs.declared.Plan.{Plan}
use Rattle.sections.specs.Find.{section_of}
use Rattle.tripfile.specs.Bodies as B
use Rattle.tripfile.specs.Reading.{trip, read_of, calls_of}
use Rattle.reader.specs.declared.CodedCall.{CodedCall}
use Rattle.reader.specs.Handed.{handed_from}

-- aid: calls as a reader hands them out
unfoldable pub steps_of : List B.Call → List (Option CodedCall)
steps_of [] = []
steps_of (c ∷ cs) = Some (record { code = c.code; number = c.number }) ∷ steps_of cs

-- reader-1, reader-2: of a file that is read, a reader over its calls section hands out the file's calls in order and
-- then none
abbrev pub ReaderHandsOutCalls : Type 0
ReaderHandsOutCalls = (f : List ℕ) (p : Plan) (n more : ℕ) → read_of f ≡ Ok (trip p n)
    → (handed_from (section_of f 2) 0 (n + more) ≡ steps_of (calls_of f) ++ replicate more None)
    × (length (calls_of f) ≡ n)
