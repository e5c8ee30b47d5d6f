-- What a line of the form is, and both round trips. Assumes nothing.
use mathlib.Core.Path.{◌≡◌, refl, sym, ◌∙◌, ap}
use mathlib.Core.Bool.{Bool, true, false, cond, ◌&&◌, ◌||◌, not}
use mathlib.Core.List.{List, [], ◌∷◌, ◌++◌}
use Prim.Native.Nat.{ℕ, zero, suc, ◌+◌, ◌≤◌}
use native.Mathlib.Omega.{arith}
use lib.ListN.{length, take, drop}
use lib.Seq.{take_at}
use lib.Dec.{leb, ltb}
use borrow.Author.Tests.{leb-true, ltb-false, le-leb, le-ltb, eq-eqb, ne_eqb}
use Rattle.words.specs.Words.{Words}
use Rattle.std.proofs.lemmas.Result.{IfOk-at_ok}
use Rattle.tariff.specs.Tests.{verdict_of}
use Rattle.tariff.proofs.Tests.{and_left, and_right, and_both}
use Rattle.tripfile.specs.Bodies.{Call, call_right, calls_right, paired, codes_of, numbers_of}
use Rattle.tripfile.specs.Writing.{write_answer, filled_or_kept}
use Rattle.tripfile.proofs.Listed.{length-paired, codes_paired, numbers_paired, paired_again, length_codes, length-numbers}
use Rattle.text.specs.Text.{placed}
use Rattle.textlines.specs.Line.{line, call_in, right_line}
use Rattle.textlines.specs.Text.{text_of, lines_of, right_lines, calls_in, calls_of, size_right, reading_reasons, reading_answer, reading_of, export_reasons, export_verdict, exported_of, buffer_of}
use Rattle.textlines.specs.Trips.{RightIsLine, LineIsRight, ReadsAs, ExportedReadsBack, ReadExportsAgain}
use Rattle.textlines.proofs.OneLine.{number_held, call_back, line_back, call_of_right, right_back}
use Rattle.textlines.proofs.Split.{lines_text, joined, joined_lines, right_yes, right_no, right_none, nothing}
use Rattle.textlines.proofs.Filling.{length_calls, answers_calls, neither}
use Rattle.textlines.proofs.Putting.{Exports, exports}
use Rattle.std.specs.Prelude.{Result, Ok, Err, ⊤}
use Rattle.tariff.specs.declared.Refusal.{Refusal}
use Rattle.tariff.specs.declared.Refusal.TheVariants.{NoRoom, TextLength, LineForm}

-- ---- one line

pub right_is_line : RightIsLine
right_is_line l h = record {
  has = record { right = call_of_right l h; word = omega (arith, number_held l) };
  is = line_back l h;
}

pub line_is_right : LineIsRight
line_is_right c h =
    let n : c.number ≤ 4294967295 = omega (arith, h.word) in
    record { passes = right_back c h.right n; call = call_back c h.right n }

-- ---- what is exported reads back

empty_lines : lines_of (text_of []) ≡ []
unfolding text_of
empty_lines = nothing

count_text : (xs : List Call) → length (lines_of (text_of xs)) ≡ length xs
count_text [] = ap length empty_lines
count_text (x ∷ xs) = ap length (lines_text x xs) ∙ ap suc (count_text xs)

right_text : (xs : List Call) → calls_right xs ≡ true → Words (numbers_of xs) → right_lines (lines_of (text_of xs)) ≡ length xs
unfolding calls_right numbers_of
right_text [] h w = ap right_lines empty_lines ∙ right_none
right_text (x ∷ xs) h w =
    let n : x.number ≤ 4294967295 = omega (arith, w 0) in
    let r = right_back x (and_left (call_right x) (calls_right xs) h) n in
    ap right_lines (lines_text x xs) ∙ (right_yes (line x) (lines_of (text_of xs)) r ∙ ap suc (right_text xs (and_right (call_right x) (calls_right xs) h) (λ i. w (suc i))))

calls_text : (xs : List Call) → calls_right xs ≡ true → Words (numbers_of xs) → calls_in (lines_of (text_of xs)) ≡ xs
unfolding calls_right numbers_of calls_in
calls_text [] h w = ap calls_in empty_lines
calls_text (x ∷ xs) h w =
    let n : x.number ≤ 4294967295 = omega (arith, w 0) in
    let c = call_back x (and_left (call_right x) (calls_right xs) h) n in
    let ih = calls_text xs (and_right (call_right x) (calls_right xs) h) (λ i. w (suc i)) in
    ap calls_in (lines_text x xs) ∙ (ap (λ (y : Call). y ∷ calls_in (lines_of (text_of xs))) c ∙ ap (λ (ys : List Call). x ∷ ys) ih)

calls_are : (t : List ℕ) → calls_of t ≡ calls_in (lines_of t)
unfolding calls_of
calls_are t = refl

size_yes : (bytes lines : ℕ) → 1 ≤ lines → lines ≤ 8184 → bytes ≤ 65536 → not (size_right bytes lines) ≡ false
size_yes bytes lines h k l = rw (le-leb 1 lines h, le-leb lines 8184 k, le-leb bytes 65536 l)

room_yes : (a b n : ℕ) → n ≤ a → n ≤ b → (ltb a n || ltb b n) ≡ false
room_yes a b n h k = rw (le-ltb a n h, le-ltb b n k)

back : (cs ns : List ℕ) (room a b : ℕ) → Words ns → Exports cs ns room → length cs ≤ a → length cs ≤ b → ReadsAs (text_of (paired cs ns)) a b cs ns
back cs ns room a b w x ha hb =
    let xs = paired cs ns in
    let t = text_of xs in
    let words : Words (numbers_of xs) = λ i. rw (numbers_paired cs ns x.same) (w i) in
    let n : length xs ≡ length cs = length-paired cs ns x.same in
    let lines : length cs ≡ length (lines_of t) = sym n ∙ sym (count_text xs) in
    let right : length cs ≡ right_lines (lines_of t) = sym n ∙ sym (right_text xs x.right words) in
    let calls : calls_of t ≡ xs = calls_are t ∙ calls_text xs x.right words in
    record {
      answer = sym (answers_calls t a b (length cs) (length cs) lines right (size_yes (length t) (length cs) (positive (length cs) x.some) x.few x.short) (omega arith) (room_yes a b (length cs) ha hb));
      codes = ap codes_of calls ∙ codes_paired cs ns x.same;
      numbers = ap numbers_of calls ∙ numbers_paired cs ns x.same;
    }
  where
    positive : (n : ℕ) → (n ≡ 0 → ⊥) → 1 ≤ n
    positive zero h = absurd (h refl)
    positive (suc n) h = omega arith

-- an answer of n bytes is that of an accepted export
record Answers (cs ns buf : List ℕ) (n : ℕ) : Type 0 where
  pub accepted : export_verdict cs ns (length buf) ≡ (Ok tt)
  pub size : n ≡ length (text_of (paired cs ns))

answers : (cs ns buf : List ℕ) (n : ℕ) → exported_of cs ns buf ≡ Ok n → Answers cs ns buf n
unfolding exported_of
answers cs ns buf n h = go (export_verdict cs ns (length buf)) refl h
  where
    go : (v : Result ⊤ Refusal) → export_verdict cs ns (length buf) ≡ v → write_answer v (length (text_of (paired cs ns))) ≡ Ok n → Answers cs ns buf n
    go (Ok tt) e g = record { accepted = e; size = IfOk-at_ok (λ (m : ℕ). m ≡ length (text_of (paired cs ns))) g refl }
    go (Err r) e g = cc

buffer_is : (cs ns buf : List ℕ) → export_verdict cs ns (length buf) ≡ (Ok tt) → buffer_of cs ns buf ≡ placed buf 0 (text_of (paired cs ns))
unfolding buffer_of
buffer_is cs ns buf h = ap (λ (v : Result ⊤ Refusal). filled_or_kept v (placed buf 0 (text_of (paired cs ns))) buf) h

pub exported_reads_back : ExportedReadsBack
exported_reads_back cs ns buf n a b w h ha hb =
    let x = answers cs ns buf n h in
    let t = text_of (paired cs ns) in
    let e : take n (buffer_of cs ns buf) ≡ t =
    ap (take n) (buffer_is cs ns buf x.accepted) ∙ unfold placed in take_at t (drop (0 + length t) buf) n (sym x.size) in
    rw e (back cs ns (length buf) a b w (exports cs ns (length buf) x.accepted) ha hb)

-- ---- a text that was read is exported again byte by byte

record Whole (ls : List (List ℕ)) : Type 0 where
  pub text : text_of (calls_in ls) ≡ joined ls
  pub right : calls_right (calls_in ls) ≡ true

whole : (ls : List (List ℕ)) → length ls ≤ right_lines ls → Whole ls
unfolding calls_in text_of joined calls_right
whole [] h = record { text = refl; right = refl }
whole (l ∷ ls) h = go (right_line l) refl (λ k. whole ls k)
  where
    go : (b : Bool) → right_line l ≡ b → (length ls ≤ right_lines ls → Whole ls) → Whole (l ∷ ls)
    go true e ih =
        let w = ih (omega (arith, right_yes l ls e)) in
        record {
          text = ap (λ (x : List ℕ). x ++ text_of (calls_in ls)) (sym (line_back l e)) ∙ ap (λ (x : List ℕ). l ++ x) w.text;
          right = and_both (call_right (call_in l)) (calls_right (calls_in ls)) (call_of_right l e) w.right;
        }
    go false e ih = absurd (omega (arith, right_no l ls e))

-- what an answer of n calls tells
pub record Tells (t : List ℕ) (a b n : ℕ) : Type 0 where
  pub count : n ≡ length (lines_of t)
  pub rooms : (n ≤ a) × (n ≤ b)
  pub some : 1 ≤ length (lines_of t)
  pub few : length (lines_of t) ≤ 8184
  pub short : length t ≤ 65536
  pub all : length (lines_of t) ≤ right_lines (lines_of t)

pub read_tells : (t : List ℕ) (a b n : ℕ) → reading_of t a b ≡ Ok n → Tells t a b n
unfolding reading_of reading_reasons verdict_of
read_tells t a b n h =
    go (size_right (length t) (length (lines_of t))) refl (ltb (right_lines (lines_of t)) (length (lines_of t))) refl (ltb a (length (lines_of t)) || ltb b (length (lines_of t))) refl h
  where
    go : (x : Bool) → size_right (length t) (length (lines_of t)) ≡ x → (y : Bool) → ltb (right_lines (lines_of t)) (length (lines_of t)) ≡ y → (z : Bool) → (ltb a (length (lines_of t)) || ltb b (length (lines_of t))) ≡ z
        → reading_answer (cond (not x) (Err TextLength) (cond y (Err LineForm) (cond z (Err NoRoom) (Ok tt)))) (length (lines_of t)) (right_lines (lines_of t)) ≡ Ok n → Tells t a b n
    go false e y f z k g = cc
    go true e true f z k g = cc
    go true e false f true k g = cc
    go true e false f false k g =
        let c : length (lines_of t) ≡ n = IfOk-at_ok (λ (m : ℕ). length (lines_of t) ≡ m) g refl in
        let r = neither a b (length (lines_of t)) k in
        let m = length (lines_of t) in
        let p = and_left (leb 1 m && leb m 8184) (leb (length t) 65536) e in
        record {
          count = sym c;
          rooms = (omega arith, omega arith);
          some = leb-true 1 m (and_left (leb 1 m) (leb m 8184) p);
          few = leb-true m 8184 (and_right (leb 1 m) (leb m 8184) p);
          short = leb-true (length t) 65536 (and_right (leb 1 m && leb m 8184) (leb (length t) 65536) e);
          all = ltb-false (right_lines (lines_of t)) m f;
        }

export_accepted : (cs ns : List ℕ) (room : ℕ) → (length cs ≡ 0 → ⊥) → length cs ≤ 8184 → length ns ≡ length cs → calls_right (paired cs ns) ≡ true
    → length (text_of (paired cs ns)) ≤ 65536 → length (text_of (paired cs ns)) ≤ room → export_verdict cs ns room ≡ (Ok tt)
unfolding export_verdict export_reasons verdict_of
export_accepted cs ns room c d e g h k =
    rw (ne_eqb (length cs) 0 c, le-leb (length cs) 8184 d, eq-eqb (length ns) (length cs) e, g, le-ltb 65536 (length (text_of (paired cs ns))) h, le-ltb room (length (text_of (paired cs ns))) k)

exported_is : (cs ns buf : List ℕ) → export_verdict cs ns (length buf) ≡ (Ok tt) → exported_of cs ns buf ≡ Ok (length (text_of (paired cs ns)))
unfolding exported_of
exported_is cs ns buf h = ap (λ (v : Result ⊤ Refusal). write_answer v (length (text_of (paired cs ns)))) h

pub read_exports_again : ReadExportsAgain
read_exports_again t buf a b n h room =
    let r = read_tells t a b n h in
    let w = whole (lines_of t) r.all in
    let xs = calls_of t in
    let e : xs ≡ calls_in (lines_of t) = calls_are t in
    let cs = codes_of xs in
    let ns = numbers_of xs in
    let same : text_of (paired cs ns) ≡ t = ap text_of (paired_again xs ∙ e) ∙ (w.text ∙ joined_lines t) in
    let size : length (text_of (paired cs ns)) ≡ length t = ap length same in
    let lx : length xs ≡ length (lines_of t) = ap length e ∙ length_calls (lines_of t) in
    let lc = length_codes xs in
    let ok : export_verdict cs ns (length buf) ≡ (Ok tt) =
    export_accepted cs ns (length buf) (λ z. omega (arith, r.some)) (omega (arith, r.few)) (length-numbers xs ∙ sym lc) (ap calls_right (paired_again xs ∙ e) ∙ w.right) (omega (arith, r.short)) (omega arith) in
    record {
      answer = exported_is cs ns buf ok ∙ ap Ok size;
      bytes = buffer_is cs ns buf ok ∙ ap (placed buf 0) same;
    }
