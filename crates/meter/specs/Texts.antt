-- The text of calls through the library (library-14). Choice (docs/DECISIONS.md, "The library"): the line of refusal
-- 22. Assumes nothing.
use Rattle.std.specs.Prelude.{ℕ, cond, List, [], ◌∷◌, length, leb, Result, Ok, Err}
use Rattle.tariff.specs.Refusal.{refusal_number}
use Rattle.textlines.specs.declared.TextError.{TextError}
use Rattle.textlines.specs.declared.TextError.TheVariants.{BadLine, Refused}
use Rattle.textlines.specs.Text.{reading_of, list_after, exported_of, buffer_of}
use Rattle.meter.specs.Answers.{accepted, bad_argument, laid}
use Rattle.meter.specs.Files.{written_code, written_laid}

-- library-14, refusal-22: accepted, or the number that declines the text
abbrev pub text_code : Result ℕ TextError → ℕ
text_code (Ok n) = accepted
text_code (Err (BadLine k)) = 22
text_code (Err (Refused r)) = refusal_number r

-- library-14, refusal-22: how many calls there are; of 22 the line; else nothing
abbrev pub text_laid : Result ℕ TextError → List ℕ → List ℕ
text_laid (Ok n) ys = laid (n ∷ []) ys
text_laid (Err (BadLine k)) ys = laid (k ∷ []) ys
text_laid (Err (Refused r)) ys = ys

-- library-4, library-14: with room for the answer looked at first: what reading returns
unfoldable pub text_read_code : List ℕ → List ℕ → List ℕ → List ℕ → ℕ
text_read_code t cs ns ys = cond (leb 1 (length ys)) (text_code (reading_of t (length cs) (length ns))) bad_argument

-- library-4, library-14: what is put
unfoldable pub text_read_laid : List ℕ → List ℕ → List ℕ → List ℕ → List ℕ
text_read_laid t cs ns ys = cond (leb 1 (length ys)) (text_laid (reading_of t (length cs) (length ns)) ys) ys

-- library-4, library-14: a list after it, which is to get the elements `new`
unfoldable pub text_read_list : List ℕ → List ℕ → List ℕ → List ℕ → List ℕ → List ℕ → List ℕ
text_read_list t cs ns ys new old =
    cond (leb 1 (length ys)) (list_after (reading_of t (length cs) (length ns)) new old) old

-- library-4, library-14: what writing returns
unfoldable pub text_write_code : List ℕ → List ℕ → List ℕ → List ℕ → ℕ
text_write_code cs ns buf ys = cond (leb 1 (length ys)) (written_code (exported_of cs ns buf)) bad_argument

-- library-4, library-14: what is put
unfoldable pub text_write_laid : List ℕ → List ℕ → List ℕ → List ℕ → List ℕ
text_write_laid cs ns buf ys = cond (leb 1 (length ys)) (written_laid (exported_of cs ns buf) ys) ys

-- library-4, library-14: the buffer
unfoldable pub text_write_buffer : List ℕ → List ℕ → List ℕ → List ℕ → List ℕ
text_write_buffer cs ns buf ys = cond (leb 1 (length ys)) (buffer_of cs ns buf) buf
