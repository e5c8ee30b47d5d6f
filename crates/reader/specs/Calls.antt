-- What a reader hands out of a calls section s, and where it then stands (reader-1, reader-2, form-7). Choice
-- (docs/DECISIONS.md, "Trip file"): the reader. Assumes nothing.
use Rattle.std.specs.Prelude.{ℕ, ◌+◌, List, Option, Some, None, cond, length, drop, leb}
use Rattle.words.specs.Words.{word}
use Rattle.reader.specs.declared.CodedCall.{CodedCall}

-- reader-1, reader-2, form-7, form-8: code and number of the 8 bytes at a position, or none
abbrev pub decoded : List ℕ → ℕ → Option CodedCall
decoded s at = cond (leb (at + 8) (length s)) (Some (record { code = word (drop at s) 0; number = word (drop at s) 1 })) None

-- reader-1, reader-2, form-7: past these 8 bytes, or where it was
abbrev pub position_after : List ℕ → ℕ → ℕ
position_after s at = cond (leb (at + 8) (length s)) (at + 8) at
