-- The calls of a trip file as text, and the trip file of a plan and a text (lines-11, lines-12). Choices
-- (docs/DECISIONS.md, "Text of calls"): plan or text first; other sections. Assumes nothing.
use Rattle.std.specs.Prelude.{List, ℕ, Result, Ok, Err}
use Rattle.tariff.specs.declared.Plan.{Plan}
use Rattle.tariff.specs.declared.Refusal.{Refusal}
use Rattle.tripfile.specs.declared.Trip.{Trip}
use Rattle.tripfile.specs.Bodies.{Call, codes_of, numbers_of}
use Rattle.tripfile.specs.Reading as Files
use Rattle.tripfile.specs.Writing as Writes
use Rattle.textlines.specs.declared.TextError.{TextError}
use Rattle.textlines.specs.Text as Texts
use Rattle.conversion.specs.declared.ExportError.{ExportError}
use Rattle.conversion.specs.declared.ExportError.TheVariants as Out
use Rattle.conversion.specs.declared.ImportError.{ImportError}
use Rattle.conversion.specs.declared.ImportError.TheVariants as In
use Rattle.conversion.specs.Errors.{declined_text}

-- lines-11: the length of the text, or the number that declines it
abbrev pub told_text : Result ℕ Refusal → Result ℕ ExportError
told_text (Ok n) = Ok n
told_text (Err r) = Err (Out.Text r)

-- lines-11: what exporting answers, by what reading the file answers, of its calls
abbrev pub export_by : Result Trip Refusal → List Call → List ℕ → Result ℕ ExportError
export_by (Ok t) cs buf = told_text (Texts.exported_of (codes_of cs) (numbers_of cs) buf)
export_by (Err r) cs buf = Err (Out.File r)

-- lines-11: what exporting the calls of a file into a buffer answers
unfoldable pub export_of : List ℕ → List ℕ → Result ℕ ExportError
export_of f buf = export_by (Files.read_of f) (Files.calls_of f) buf

-- lines-11: the buffer, by what reading the file answers
abbrev pub export_buffer_by : Result Trip Refusal → List Call → List ℕ → List ℕ
export_buffer_by (Ok t) cs buf = Texts.buffer_of (codes_of cs) (numbers_of cs) buf
export_buffer_by (Err r) cs buf = buf

-- lines-11: what stands in the buffer then
unfoldable pub export_buffer : List ℕ → List ℕ → List ℕ
export_buffer f buf = export_buffer_by (Files.read_of f) (Files.calls_of f) buf

-- lines-12: the length of the file, or the number that declines its writing
abbrev pub told_file : Result ℕ Refusal → Result ℕ ImportError
told_file (Ok n) = Ok n
told_file (Err r) = Err (In.Writing r)

-- lines-12: what reading a text answers, with room for as many calls as a text can have
abbrev pub lines_read : List ℕ → Result ℕ TextError
lines_read t = Texts.reading_of t 8184 8184

-- lines-12: what importing answers, by what reading the text answers, of its calls
abbrev pub import_by : Result ℕ TextError → Plan → List Call → List ℕ → Result ℕ ImportError
import_by (Ok n) p cs buf = told_file (Writes.written_of p (codes_of cs) (numbers_of cs) buf)
import_by (Err e) p cs buf = Err (declined_text e)

-- lines-12: what importing a text under a plan into a buffer answers
unfoldable pub import_of : Plan → List ℕ → List ℕ → Result ℕ ImportError
import_of p t buf = import_by (lines_read t) p (Texts.calls_of t) buf

-- lines-12: the buffer, by what reading the text answers
abbrev pub import_buffer_by : Result ℕ TextError → Plan → List Call → List ℕ → List ℕ
import_buffer_by (Ok n) p cs buf = Writes.buffer_of p (codes_of cs) (numbers_of cs) buf
import_buffer_by (Err e) p cs buf = buf

-- lines-12: what stands in the buffer then
unfoldable pub import_buffer : Plan → List ℕ → List ℕ → List ℕ
import_buffer p t buf = import_buffer_by (lines_read t) p (Texts.calls_of t) buf
