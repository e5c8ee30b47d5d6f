-- What a line of the form is, and both round trips of a text (lines-1, lines-3, lines-7, lines-8), of the definitions
-- that the contracts of `read` and `export` cite. Assumes nothing.
use Rattle.std.specs.Prelude.{ℕ, ◌^◌, ◌≤◌, ◌<◌, ◌≡◌, true, List, length, take, Ok}
use Rattle.words.specs.Words.{Words}
use Rattle.text.specs.Text.{placed}
use Rattle.tripfile.specs.Bodies.{Call, call_right, codes_of, numbers_of}
use Rattle.textlines.specs.Line.{line, call_in, right_line}
use Rattle.textlines.specs.Text.{calls_of, reading_of, exported_of, buffer_of}

-- lines-3: a call that has a line: code and number are those of a trip file, and the number is a word
pub record HasLine (c : Call) : Type 0 where
  pub right : call_right c ≡ true
  pub word : c.number < 2 ^ 32

-- lines-1: a line that is the line of the call that it is read as
pub record LineOf (l : List ℕ) : Type 0 where
  pub has : HasLine (call_in l)
  pub is : l ≡ line (call_in l)

-- lines-1, refusal-22: so it is with every line of the form
abbrev pub RightIsLine : Type 0
RightIsLine = (l : List ℕ) → right_line l ≡ true → LineOf l

-- lines-1, lines-5: a call whose line is of the form and is read as that call
pub record ReadsAsCall (c : Call) : Type 0 where
  pub passes : right_line (line c) ≡ true
  pub call : call_in (line c) ≡ c

-- lines-1, lines-5, refusal-22: so it is with every call that has a line
abbrev pub LineIsRight : Type 0
LineIsRight = (c : Call) → HasLine c → ReadsAsCall c

-- lines-7: a text reads as the calls of the codes cs and the numbers ns, with room for a codes and b numbers
pub record ReadsAs (t : List ℕ) (a b : ℕ) (cs ns : List ℕ) : Type 0 where
  pub answer : reading_of t a b ≡ Ok (length cs)
  pub codes : codes_of (calls_of t) ≡ cs
  pub numbers : numbers_of (calls_of t) ≡ ns

-- lines-7: if exporting words into any buffer answered n bytes, the first n bytes of the buffer read as the same calls,
-- in all lists with room for them
abbrev pub ExportedReadsBack : Type 0
ExportedReadsBack =
    (cs ns buf : List ℕ) (n a b : ℕ) → Words ns → exported_of cs ns buf ≡ Ok n → length cs ≤ a → length cs ≤ b
    → ReadsAs (take n (buffer_of cs ns buf)) a b cs ns

-- lines-8: the calls of a text, exported into a buffer, put the text there byte by byte, and the bytes after it stay
pub record ExportsAs (t buf : List ℕ) : Type 0 where
  pub answer : exported_of (codes_of (calls_of t)) (numbers_of (calls_of t)) buf ≡ Ok (length t)
  pub bytes : buffer_of (codes_of (calls_of t)) (numbers_of (calls_of t)) buf ≡ placed buf 0 t

-- lines-8: so it is with every text that was read, in all buffers with room for it
abbrev pub ReadExportsAgain : Type 0
ReadExportsAgain =
    (t buf : List ℕ) (a b n : ℕ) → reading_of t a b ≡ Ok n → length t ≤ length buf → ExportsAs t buf
