-- The text that the program `statement` prints (statement-1 to statement-3). Choices (docs/DECISIONS.md, "Statement"):
-- lines; figures; L none. Assumes nothing.
use Rattle.std.specs.Prelude.{ℕ, List, ◌++◌, Option, Some, None, Result, Ok, Err}
use Prim.Native.String.{String}
use Rattle.text.specs.Text.{ascii, decimal}
use Rattle.tariff.specs.declared.Refusal.{Refusal}
use Rattle.tariff.specs.Refusal.{refusal_number}
use Rattle.report.specs.declared.Figures.{Figures}
use Rattle.report.specs.Statement.{report_of}

-- aid to `line`: what stands before a figure, the figure, and a line feed
abbrev pub ended : List ℕ → List ℕ → List ℕ
ended before figure = before ++ figure ++ ascii "\n"

-- statement-1: the name, a space, the figure, and a line feed
abbrev pub line : String → List ℕ → List ℕ
line name figure = ended (ascii name ++ ascii " ") figure

-- statement-1: L, or the word none
abbrev pub limit_text : Option ℕ → List ℕ
limit_text None = ascii "none"
limit_text (Some n) = decimal n

-- statement-1: its line
unfoldable pub limit_line : Option ℕ → List ℕ
limit_line l = line "limit" (limit_text l)

-- statement-1: the first five lines
unfoldable pub money_lines : Figures → List ℕ
money_lines f =
    line "day" (decimal f.day)
    ++ line "paid" (decimal f.paid)
    ++ line "credit" (decimal f.credit)
    ++ line "home" (decimal f.home)
    ++ line "extra" (decimal f.extra)

-- statement-1: the other four
unfoldable pub data_lines : Figures → List ℕ
data_lines f =
    limit_line f.limit
    ++ line "roamed" (decimal f.roamed)
    ++ line "past" (decimal f.past)
    ++ line "refused" (decimal f.refused)

-- statement-1, statement-2: the nine lines, or the one of a bad file
unfoldable pub text_of : Result Figures Refusal → List ℕ
text_of (Ok f) = money_lines f ++ data_lines f
text_of (Err r) = line "file" (decimal (refusal_number r))

-- statement-1, statement-3: what is printed of a file's bytes
abbrev pub statement_text : List ℕ → List ℕ
statement_text f = text_of (report_of f)
