-- From a file to a text and back, and from a text to a file and back. Assumes nothing.
use mathlib.Core.Path.{◌≡◌, refl, sym, ◌∙◌, ap}
use mathlib.Core.Bool.{Bool, true, false, cond}
use mathlib.Core.List.{List, [], ◌∷◌}
use Prim.Native.Nat.{ℕ, ◌/◌, ◌≤◌}
use native.Mathlib.Omega.{arith}
use lib.ListN.{length, get_or, take}
use lib.Dec.{eqb}
use Rattle.words.specs.Words.{Words}
use Rattle.words.proofs.Read.{Fit, none, more, fit_at}
use Rattle.text.specs.Text.{placed}
use Rattle.text.proofs.Placing.{length-placed}
use Rattle.tariff.specs.declared.Plan.{Plan}
use Rattle.tariff.specs.declared.Refusal.{Refusal}
use Rattle.tripfile.specs.declared.Trip.{Trip}
use Rattle.sections.specs.Find.{section_of}
use Rattle.tripfile.specs.Bodies.{calls_in, codes_of, numbers_of}
use Rattle.tripfile.specs.Reading as Files
use Rattle.tripfile.specs.Writing as Writes
use Rattle.tripfile.proofs.Held.{holds}
use Rattle.tripfile.proofs.Listed.{length_codes, length-numbers}
use Rattle.roundtrip.proofs.Back.{written_reads_back}
use Rattle.roundtrip.proofs.Again.{read_writes_again}
use Rattle.roundtrip.proofs.Keeps.{words_read}
use Rattle.textlines.specs.declared.TextError.{TextError}
use Rattle.textlines.specs.Line.{code_by, code_in, call_in}
use Rattle.textlines.specs.Text as Texts
use Rattle.textlines.proofs.OneLine.{number_held}
use Rattle.textlines.proofs.Filling.{length_calls}
use Rattle.textlines.proofs.RoundTrips.{read_tells, exported_reads_back, read_exports_again}
use Rattle.conversion.specs.Conversion.{told_text, export_by, export_of, export_buffer_by, export_buffer}
use Rattle.conversion.specs.Conversion.{told_file, lines_read, import_by, import_of, import_buffer_by, import_buffer}
use Rattle.conversion.proofs.Listing.{put_back}
use Rattle.conversion.specs.Trips.{ExportImportsAgain, ImportExportsAgain}
use Rattle.std.specs.Prelude.{Result, Ok, Err}
use Rattle.std.proofs.lemmas.Result.{IfOk-at_ok}

-- ---- each answer, by that of reading

pub exported : (f buf : List ℕ) (x : Result Trip Refusal) → Files.read_of f ≡ x → export_of f buf ≡ export_by x (Files.calls_of f) buf
unfolding export_of
exported f buf x e = ap (λ (r : Result Trip Refusal). export_by r (Files.calls_of f) buf) e

pub exported_buffer : (f buf : List ℕ) (x : Result Trip Refusal) → Files.read_of f ≡ x → export_buffer f buf ≡ export_buffer_by x (Files.calls_of f) buf
unfolding export_buffer
exported_buffer f buf x e = ap (λ (r : Result Trip Refusal). export_buffer_by r (Files.calls_of f) buf) e

pub imported : (p : Plan) (t buf : List ℕ) (x : Result ℕ TextError) → lines_read t ≡ x → import_of p t buf ≡ import_by x p (Texts.calls_of t) buf
unfolding import_of
imported p t buf x e = ap (λ (r : Result ℕ TextError). import_by r p (Texts.calls_of t) buf) e

pub imported_buffer : (p : Plan) (t buf : List ℕ) (x : Result ℕ TextError) → lines_read t ≡ x
    → import_buffer p t buf ≡ import_buffer_by x p (Texts.calls_of t) buf
unfolding import_buffer
imported_buffer p t buf x e = ap (λ (r : Result ℕ TextError). import_buffer_by r p (Texts.calls_of t) buf) e

-- ---- a text that was read has as many codes and numbers as lines

pub record Listed (t : List ℕ) (n : ℕ) : Type 0 where
  pub few : n ≤ 8184
  pub codes : n ≡ length (codes_of (Texts.calls_of t))
  pub numbers : n ≡ length (numbers_of (Texts.calls_of t))

pub listed : (t : List ℕ) (n : ℕ) → lines_read t ≡ Ok n → Listed t n
unfolding Texts.calls_of
listed t n e =
    let r = read_tells t 8184 8184 n e in
    let c = length_calls (Texts.lines_of t) in
    record {
      few = r.rooms.0;
      codes = omega (arith, r.count, length_codes (Texts.calls_of t));
      numbers = omega (arith, r.count, length-numbers (Texts.calls_of t));
    }

-- what stands in a lent list of 8,184 places then
pub record Got (n : ℕ) (cs xs : List ℕ) : Type 0 where
  pub within : n ≤ length cs
  pub long : n ≡ length (take n cs)
  pub is : take n cs ≡ xs

got : (n : ℕ) (r : Result ℕ TextError) (xs cs₀ cs : List ℕ) → r ≡ Ok n → cs ≡ Texts.list_after r xs cs₀ → n ≡ length xs
    → n ≤ length cs₀ → Got n cs xs
got n r xs cs₀ cs e f l m =
    let g : cs ≡ placed cs₀ 0 xs = f ∙ ap (λ (x : Result ℕ TextError). Texts.list_after x xs cs₀) e in
    let i : take n cs ≡ xs = ap (take n) g ∙ put_back xs cs₀ n l in
    record {
      within = omega (arith, ap length g, length-placed cs₀ 0 xs (omega arith));
      long = l ∙ ap length (sym i);
      is = i;
    }

module _ (t : List ℕ) (r : Result ℕ TextError) (n : ℕ) (a : r ≡ lines_read t) (e : r ≡ Ok n) where
  pub got_codes : (cs₀ cs : List ℕ) → length cs₀ ≡ 8184 → cs ≡ Texts.list_after r (codes_of (Texts.calls_of t)) cs₀
      → Got n cs (codes_of (Texts.calls_of t))
  got_codes cs₀ cs l f =
      let i = listed t n (sym a ∙ e) in
      got n r (codes_of (Texts.calls_of t)) cs₀ cs e f i.codes (omega (arith, i.few))

  pub got_numbers : (ns₀ ns : List ℕ) → length ns₀ ≡ 8184 → ns ≡ Texts.list_after r (numbers_of (Texts.calls_of t)) ns₀
      → Got n ns (numbers_of (Texts.calls_of t))
  got_numbers ns₀ ns l f =
      let i = listed t n (sym a ∙ e) in
      got n r (numbers_of (Texts.calls_of t)) ns₀ ns e f i.numbers (omega (arith, i.few))

  pub import_done : (p : Plan) (buf cs ns : List ℕ) (w : Result ℕ Refusal) (b : List ℕ) → take n cs ≡ codes_of (Texts.calls_of t)
      → take n ns ≡ numbers_of (Texts.calls_of t) → w ≡ Writes.written_of p (take n cs) (take n ns) buf
      → b ≡ Writes.buffer_of p (take n cs) (take n ns) buf
      → (told_file w ≡ import_of p t buf) × (b ≡ import_buffer p t buf)
  import_done p buf cs ns w b ec en ew eb =
      let x = sym a ∙ e in (
        ap told_file (ew ∙ (ap (λ (y : List ℕ). Writes.written_of p y (take n ns) buf) ec ∙ ap (λ (y : List ℕ). Writes.written_of p (codes_of (Texts.calls_of t)) y buf) en))
            ∙ sym (imported p t buf (Ok n) x),
        eb
            ∙ (ap (λ (y : List ℕ). Writes.buffer_of p y (take n ns) buf) ec
            ∙ (ap (λ (y : List ℕ). Writes.buffer_of p (codes_of (Texts.calls_of t)) y buf) en ∙ sym (imported_buffer p t buf (Ok n) x))),
      )

-- a file that was read, and its calls section
pub section_short : (f s : List ℕ) (p : Plan) (n : ℕ) → Files.read_of f ≡ Ok (Files.trip p n) → s ≡ section_of f 2 → length s / 8 ≤ 8184
section_short f s p n e i = let o = holds f p n e in omega (arith, o.long, o.few, ap length i)

pub export_done : (f buf s : List ℕ) (p : Plan) (n : ℕ) (w : Result ℕ Refusal) (b : List ℕ) → Files.read_of f ≡ Ok (Files.trip p n) → s ≡ section_of f 2
    → w ≡ Texts.exported_of (codes_of (calls_in s)) (numbers_of (calls_in s)) buf
    → b ≡ Texts.buffer_of (codes_of (calls_in s)) (numbers_of (calls_in s)) buf
    → (told_text w ≡ export_of f buf) × (b ≡ export_buffer f buf)
export_done f buf s p n w b e i ew eb = (
  ap told_text (ew ∙ ap (λ (y : List ℕ). Texts.exported_of (codes_of (calls_in y)) (numbers_of (calls_in y)) buf) i)
      ∙ sym (exported f buf (Ok (Files.trip p n)) e),
  eb
      ∙ (ap (λ (y : List ℕ). Texts.buffer_of (codes_of (calls_in y)) (numbers_of (calls_in y)) buf) i
      ∙ sym (exported_buffer f buf (Ok (Files.trip p n)) e)),
)

-- ---- from a file to a text and back

told_bytes : (w : Result ℕ Refusal) (k : ℕ) → told_text w ≡ Ok k → w ≡ Ok k
told_bytes (Ok n) k e = ap Ok (IfOk-at_ok (λ (m : ℕ). n ≡ m) e refl)
told_bytes (Err r) k e = cc

pub export_imports_again : ExportImportsAgain
export_imports_again f text buf p n k h two e x room =
    let zs = Files.calls_of f in
    let cs = codes_of zs in
    let ns = numbers_of zs in
    let o = holds f p n e in
    let w : Texts.exported_of cs ns text ≡ Ok k =
    told_bytes (Texts.exported_of cs ns text) k (sym (exported f text (Ok (Files.trip p n)) e) ∙ x) in
    let t = take k (export_buffer f text) in
    let few : length cs ≤ 8184 = omega (arith, length_codes zs, o.count, o.few) in
    let tb : take k (Texts.buffer_of cs ns text) ≡ t = ap (take k) (sym (exported_buffer f text (Ok (Files.trip p n)) e)) in
    let r = exported_reads_back cs ns text k 8184 8184 (words_read f p n h e).1 w few few in
    let answer : lines_read t ≡ Ok (length cs) = ap lines_read (sym tb) ∙ r.answer in
    let codes : codes_of (Texts.calls_of t) ≡ cs = ap (λ (y : List ℕ). codes_of (Texts.calls_of y)) (sym tb) ∙ r.codes in
    let numbers : numbers_of (Texts.calls_of t) ≡ ns = ap (λ (y : List ℕ). numbers_of (Texts.calls_of y)) (sym tb) ∙ r.numbers in
    let again = read_writes_again f buf p n h two e room in
    record {
      answer =
          imported p t buf (Ok (length cs)) answer
          ∙ (ap (λ (y : List ℕ). told_file (Writes.written_of p y (numbers_of (Texts.calls_of t)) buf)) codes
          ∙ (ap (λ (y : List ℕ). told_file (Writes.written_of p cs y buf)) numbers ∙ ap told_file again.answer));
      bytes =
          imported_buffer p t buf (Ok (length cs)) answer
          ∙ (ap (λ (y : List ℕ). Writes.buffer_of p y (numbers_of (Texts.calls_of t)) buf) codes
          ∙ (ap (λ (y : List ℕ). Writes.buffer_of p cs y buf) numbers ∙ again.bytes));
    }

-- ---- from a text to a file and back

least_of : (b : Bool) (x y : ℕ) → x ≤ 7 → y ≤ 7 → cond b x y ≤ 7
least_of true x y h k = h
least_of false x y h k = k

code_small : (b : ℕ) → code_by b ≤ 7
code_small b =
    least_of (eqb b 114) 1 _ (omega arith)
    (least_of (eqb b 100) 2 _ (omega arith)
    (least_of (eqb b 111) 3 _ (omega arith)
    (least_of (eqb b 105) 4 _ (omega arith)
    (least_of (eqb b 115) 5 _ (omega arith)
    (least_of (eqb b 116) 6 _ (omega arith)
    (least_of (eqb b 110) 7 0 (omega arith) (omega arith)))))))

code_held : (l : List ℕ) → (call_in l).code ≤ 7
unfolding call_in code_in
code_held l = code_small (get_or l 0 0)

fit_codes : (ls : List (List ℕ)) → Fit (codes_of (Texts.calls_in ls))
unfolding Texts.calls_in codes_of
fit_codes [] = none
fit_codes (l ∷ ls) = more {w = (call_in l).code} (omega (arith, code_held l)) (fit_codes ls)

fit_numbers : (ls : List (List ℕ)) → Fit (numbers_of (Texts.calls_in ls))
unfolding Texts.calls_in numbers_of
fit_numbers [] = none
fit_numbers (l ∷ ls) = more {w = (call_in l).number} (omega (arith, number_held l)) (fit_numbers ls)

words_codes : (t : List ℕ) → Words (codes_of (Texts.calls_of t))
unfolding Texts.calls_of
words_codes t = fit_at {ws = codes_of (Texts.calls_of t)} (fit_codes (Texts.lines_of t))

words_numbers : (t : List ℕ) → Words (numbers_of (Texts.calls_of t))
unfolding Texts.calls_of
words_numbers t = fit_at {ws = numbers_of (Texts.calls_of t)} (fit_numbers (Texts.lines_of t))

record Answers (p : Plan) (t file : List ℕ) (k n : ℕ) : Type 0 where
  pub read : lines_read t ≡ Ok n
  pub written : Writes.written_of p (codes_of (Texts.calls_of t)) (numbers_of (Texts.calls_of t)) file ≡ Ok k

answers : (p : Plan) (t file : List ℕ) (k : ℕ) → import_of p t file ≡ Ok k → (n : ℕ) × Answers p t file k n
answers p t file k h = go (lines_read t) refl (sym (imported p t file (lines_read t) refl) ∙ h)
  where
    bytes : (w : Result ℕ Refusal) → told_file w ≡ Ok k → w ≡ Ok k
    bytes (Ok n) e = ap Ok (IfOk-at_ok (λ (m : ℕ). n ≡ m) e refl)
    bytes (Err r) e = cc

    go : (x : Result ℕ TextError) → lines_read t ≡ x → import_by x p (Texts.calls_of t) file ≡ Ok k → (n : ℕ) × Answers p t file k n
    go (Ok n) e g = (n, record { read = e; written = bytes (Writes.written_of p (codes_of (Texts.calls_of t)) (numbers_of (Texts.calls_of t)) file) g })
    go (Err m) e g = cc

pub import_exports_again : ImportExportsAgain
import_exports_again p t file buf k h room =
    let a = answers p t file k h in
    let n = a.0 in
    let cs = codes_of (Texts.calls_of t) in
    let ns = numbers_of (Texts.calls_of t) in
    let f = take k (import_buffer p t file) in
    let fb : take k (Writes.buffer_of p cs ns file) ≡ f = ap (take k) (sym (imported_buffer p t file (Ok n) a.1.read)) in
    let r = written_reads_back p cs ns file k (words_codes t) (words_numbers t) a.1.written in
    let answer : Files.read_of f ≡ Ok (Files.trip p (length cs)) = ap Files.read_of (sym fb) ∙ r.answer in
    let codes : codes_of (Files.calls_of f) ≡ cs = ap (λ (y : List ℕ). codes_of (Files.calls_of y)) (sym fb) ∙ r.codes in
    let numbers : numbers_of (Files.calls_of f) ≡ ns = ap (λ (y : List ℕ). numbers_of (Files.calls_of y)) (sym fb) ∙ r.numbers in
    let again = read_exports_again t buf 8184 8184 n a.1.read room in
    record {
      answer =
          exported f buf (Ok (Files.trip p (length cs))) answer
          ∙ (ap (λ (y : List ℕ). told_text (Texts.exported_of y (numbers_of (Files.calls_of f)) buf)) codes
          ∙ (ap (λ (y : List ℕ). told_text (Texts.exported_of cs y buf)) numbers ∙ ap told_text again.answer));
      bytes =
          exported_buffer f buf (Ok (Files.trip p (length cs))) answer
          ∙ (ap (λ (y : List ℕ). Texts.buffer_of y (numbers_of (Files.calls_of f)) buf) codes
          ∙ (ap (λ (y : List ℕ). Texts.buffer_of cs y buf) numbers ∙ again.bytes));
    }
