-- The text of calls, what reading it answers, and what exporting answers (lines-4 to lines-6, lines-9, lines-10,
-- refusal-14 to refusal-16, refusal-21, refusal-22). Choices (docs/DECISIONS.md, "Text of calls"): lines; room in both
-- lists; 21 of an export. Assumes nothing.
use Rattle.std.specs.Prelude.{ℕ, suc, ◌+◌, Bool, cond, ◌&&◌, ◌||◌, not, List, [], ◌∷◌, ◌++◌, length, leb, ltb, eqb, Result, Ok, Err, ⊤}
use Rattle.text.specs.Text.{placed}
use Rattle.tariff.specs.Tests.{Reason, because, verdict_of, between}
use Rattle.tripfile.specs.Bodies.{Call, paired, calls_right}
use Rattle.tripfile.specs.Writing.{counts_right, write_answer, filled_or_kept}
use Rattle.textlines.specs.declared.TextError.{TextError}
use Rattle.textlines.specs.declared.TextError.TheVariants.{BadLine, Refused}
use Rattle.textlines.specs.Line.{line, call_in, right_line}
use Rattle.tariff.specs.declared.Refusal.{Refusal}
use Rattle.tariff.specs.Refusal.{refusal_number}
use Rattle.tariff.specs.declared.Refusal.TheVariants.{BodyLength, CallForm, NoRoom, TextLength, LineForm}

-- lines-6: the text of calls: their lines, one after the other
unfoldable pub text_of : List Call → List ℕ
text_of [] = []
text_of (c ∷ cs) = line c ++ text_of cs

-- aid to `lines_of`: a byte before the first line
abbrev pub onto : ℕ → List (List ℕ) → List (List ℕ)
onto b [] = (b ∷ []) ∷ []
onto b (l ∷ ls) = (b ∷ l) ∷ ls

-- lines-4: the lines of a text, each with its line feed; an unended one is the last, without
unfoldable pub lines_of : List ℕ → List (List ℕ)
lines_of [] = []
lines_of (b ∷ bs) = cond (eqb b 10) ((b ∷ []) ∷ lines_of bs) (onto b (lines_of bs))

-- refusal-22: how many lines come before the first that is not of the form
unfoldable pub right_lines : List (List ℕ) → ℕ
right_lines [] = 0
right_lines (l ∷ ls) = cond (right_line l) (suc (right_lines ls)) 0

-- lines-5: the calls that lines are read as
unfoldable pub calls_in : List (List ℕ) → List Call
calls_in [] = []
calls_in (l ∷ ls) = call_in l ∷ calls_in ls

-- lines-5: and those of a text
unfoldable pub calls_of : List ℕ → List Call
calls_of t = calls_in (lines_of t)

-- lines-4, refusal-21: as many lines and bytes as a text may have
abbrev pub size_right : ℕ → ℕ → Bool
size_right bytes lines = between 1 lines 8184 && leb bytes 65536

-- lines-10, refusal-21, refusal-22, refusal-16: of a text, with room for a codes and b numbers
unfoldable pub reading_reasons : List ℕ → ℕ → ℕ → List Reason
reading_reasons t a b =
    because TextLength (not (size_right (length t) (length (lines_of t))))
    ∷ because LineForm (ltb (right_lines (lines_of t)) (length (lines_of t)))
    ∷ because NoRoom (ltb a (length (lines_of t)) || ltb b (length (lines_of t)))
    ∷ []

-- lines-5, refusal-22: the number of calls; of 22 the line, counted from 1; else the number alone
abbrev pub reading_answer : Result ⊤ Refusal → ℕ → ℕ → Result ℕ TextError
reading_answer (Ok tt) lines right = Ok lines
reading_answer (Err r) lines right = Err (cond (eqb (refusal_number r) 22) (BadLine (right + 1)) (Refused r))

-- lines-5, lines-10: what reading a text answers
unfoldable pub reading_of : List ℕ → ℕ → ℕ → Result ℕ TextError
reading_of t a b = reading_answer (verdict_of (reading_reasons t a b)) (length (lines_of t)) (right_lines (lines_of t))

-- lines-5: what stands in a lent list then: the new elements with all others as they were, or all
abbrev pub list_after : Result ℕ TextError → List ℕ → List ℕ → List ℕ
list_after (Ok n) new old = placed old 0 new
list_after (Err (BadLine k)) new old = old
list_after (Err (Refused r)) new old = old

-- lines-9, refusal-14, refusal-15, refusal-21, refusal-16: of codes, numbers and the buffer's length
unfoldable pub export_reasons : List ℕ → List ℕ → ℕ → List Reason
export_reasons cs ns room =
    because BodyLength (not (counts_right cs ns))
    ∷ because CallForm (not (calls_right (paired cs ns)))
    ∷ because TextLength (ltb 65536 (length (text_of (paired cs ns))))
    ∷ because NoRoom (ltb room (length (text_of (paired cs ns))))
    ∷ []

-- lines-9: the first of these that holds
unfoldable pub export_verdict : List ℕ → List ℕ → ℕ → Result ⊤ Refusal
export_verdict cs ns room = verdict_of (export_reasons cs ns room)

-- lines-6: what exporting into a buffer answers
unfoldable pub exported_of : List ℕ → List ℕ → List ℕ → Result ℕ Refusal
exported_of cs ns buf = write_answer (export_verdict cs ns (length buf)) (length (text_of (paired cs ns)))

-- lines-6: what stands in the buffer then
unfoldable pub buffer_of : List ℕ → List ℕ → List ℕ → List ℕ
buffer_of cs ns buf = filled_or_kept (export_verdict cs ns (length buf)) (placed buf 0 (text_of (paired cs ns))) buf
