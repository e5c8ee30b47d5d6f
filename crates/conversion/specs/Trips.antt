-- From a file to a text and back, and from a text to a file and back (lines-11, lines-12). Assumes nothing.
use Rattle.std.specs.Prelude.{ℕ, ◌≤◌, ◌≡◌, List, ◌++◌, length, take, drop, Ok}
use Rattle.words.specs.Words.{Bytes}
use Rattle.text.specs.Text.{placed}
use Rattle.tariff.specs.declared.Plan.{Plan}
use Rattle.tripfile.specs.Reading.{trip, read_of}
use Rattle.roundtrip.specs.Trips.{PlanThenCalls}
use Rattle.conversion.specs.Conversion.{export_of, export_buffer, import_of, import_buffer}

-- lines-12: a text, imported under a plan into a buffer, puts the file f there, and the bytes after it stay
pub record ImportsAs (p : Plan) (t f buf : List ℕ) : Type 0 where
  pub answer : import_of p t buf ≡ Ok (length f)
  pub bytes : import_buffer p t buf ≡ f ++ drop (length f) buf

-- lines-11, lines-12: a file of just plan and calls, in that order, whose calls were exported as k bytes is what these
-- bytes are imported as under its plan, into each buffer with room
abbrev pub ExportImportsAgain : Type 0
ExportImportsAgain =
    (f text buf : List ℕ) (p : Plan) (n k : ℕ) → Bytes f → PlanThenCalls f
    → read_of f ≡ Ok (trip p n) → export_of f text ≡ Ok k → length f ≤ length buf
    → ImportsAs p (take k (export_buffer f text)) f buf

-- lines-11: a file, exported into a buffer, puts the text t there, and the bytes after it stay
pub record ExportsAs (f t buf : List ℕ) : Type 0 where
  pub answer : export_of f buf ≡ Ok (length t)
  pub bytes : export_buffer f buf ≡ placed buf 0 t

-- lines-11, lines-12: a text that was imported as a file of k bytes is what that file is exported as, into each buffer
-- with room
abbrev pub ImportExportsAgain : Type 0
ImportExportsAgain =
    (p : Plan) (t file buf : List ℕ) (k : ℕ) → import_of p t file ≡ Ok k → length t ≤ length buf
    → ExportsAs (take k (import_buffer p t file)) t buf
