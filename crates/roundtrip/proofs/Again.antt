-- A file of just plan and calls, in that order, that was read is written again byte by byte. Assumes nothing.
use mathlib.Core.Path.{◌≡◌, refl, sym, ◌∙◌, ap}
use mathlib.Core.Bool.{Bool, true, false}
use mathlib.Core.List.{List, ◌∷◌, ◌++◌}
use Prim.Native.Nat.{ℕ, zero, suc, ◌+◌, ◌*◌, ◌-◌, ◌/◌, ◌%◌, ◌^◌, ◌≤◌, ◌<◌}
use native.Mathlib.Omega.{arith}
use lib.Dec.{ltb, eqb, lit<}
use lib.ListN.{length, get_or, take, drop, length-take, length-drop, get_or-eq_default}
use borrow.Author.Tests.{le-leb, le-ltb, eq-eqb, ne_eqb, eqb-true, eqb-false, ltb-true, ltb-false}
use Rattle.words.specs.Words.{word, bytes_of, wrapped_sum, total, closing_word, Bytes}
use Rattle.words.proofs.Read.{Fit, more, fit_of, word_fits, word_of_part, of_words, sum_written, two_total}
use Rattle.tariff.specs.declared.Plan.{Plan}
use Rattle.tariff.specs.Tests.{verdict_of, is_accepted}
use Rattle.tariff.specs.Plan.{form_word, form_of, plan_with, plan_verdict}
use Rattle.sections.specs.Table.{section_count, start_at, length_at, body_start}
use Rattle.sections.specs.Find.{part_of}
use Rattle.tariff.proofs.Verdicts.{then, accepted_is}
use Rattle.sections.proofs.Table.{keeps, entry_start, body_more}
use Rattle.sections.proofs.Finding.{found, section_is}
use Rattle.tripfile.specs.Bodies.{Call, call, call_at, calls_in, call_words, plan_words, terms_in, paired, codes_of, numbers_of, calls_right, PlanFits}
use Rattle.tripfile.specs.Reading.{calls_of}
use Rattle.tripfile.specs.Writing.{file_size, later_words, file_words, file_of, calls_reasons, write_verdict, write_answer, written_of, buffer_of}
use Rattle.tripfile.proofs.Listed.{length_calls, call_in, length_words, code_word, number_word, paired_again, length_codes, length-numbers}
use Rattle.tripfile.proofs.Accepted.{Reads, reads, plan_fits, write_then}
use Rattle.tripfile.proofs.Filled.{fit_later, length_later}
use Rattle.tripfile.proofs.Held.{answers}
use Rattle.roundtrip.specs.Trips.{PlanThenCalls, WritesAs, ReadWritesAgain}
use Rattle.roundtrip.proofs.Made.{plan_part, calls_part}
use Rattle.roundtrip.proofs.Back.{buffer_is}
use Rattle.std.specs.Prelude.{Result, Ok, ⊤}
use Rattle.tariff.specs.declared.Refusal.{Refusal}

form_forth : (w : ℕ) → w ≤ 2 → form_word (form_of w) ≡ w
unfolding form_of
form_forth zero h = refl
form_forth (suc zero) h = refl
form_forth (suc (suc zero)) h = refl
form_forth (suc (suc (suc w))) h = absurd (omega arith)

-- ---- the words of a read file of just plan and k calls

record Two (f : List ℕ) (k : ℕ) : Type 0 where
  pub bytes : Bytes f
  pub long : length f ≡ 64 + 8 * k
  pub few : k ≤ 8184
  pub some : k ≡ 0 → ⊥
  pub size : word f 0 ≡ 64 + 8 * k
  pub sums : wrapped_sum f ≡ 0
  pub table : PlanThenCalls f
  pub start₀ : word f 4 ≡ 36
  pub len₀ : word f 5 ≡ 28
  pub start₁ : word f 7 ≡ 64
  pub len₁ : word f 8 ≡ 8 * k
  pub plan : part_of f 1 ≡ take 28 (drop 36 f)
  pub calls : part_of f 2 ≡ take (8 * k) (drop 64 f)

first_body : (f : List ℕ) → body_start f 0 ≡ 12 + 12 * section_count f
unfolding body_start
first_body f = refl

two_of : (f : List ℕ) → Bytes f → Reads f → PlanThenCalls f → Two f (length_at f 1 / 8)
two_of f h l t =
    let g = keeps f l.file in
    let c = t.two in
    let b₀ = first_body f in
    let b₁ = body_more f 0 in
    let b₂ = body_more f 1 in
    let s₀ : start_at f 0 ≡ body_start f 0 = entry_start f 0 (section_count f) g.follow (omega arith) in
    let s₁ : start_at f 1 ≡ body_start f 1 = entry_start f 1 (section_count f) g.follow (omega arith) in
    let ends : body_start f 2 ≡ length f = ap (body_start f) (sym c) ∙ g.ends in
    let p₁ = plan_part f t in
    let p₂ = calls_part f t in
    let n₁ : length (part_of f 1) ≡ length_at f 0 = ap length p₁ ∙ (length-take (length_at f 0) (drop (start_at f 0) f) ∙ omega (arith, length-drop (start_at f 0) f)) in
    let n₂ : length (part_of f 2) ≡ length_at f 1 = ap length p₂ ∙ (length-take (length_at f 1) (drop (start_at f 1) f) ∙ omega (arith, length-drop (start_at f 1) f)) in
    let z₀ : start_at f 0 ≡ 36 = omega arith in
    let w₀ : length_at f 0 ≡ 28 = sym n₁ ∙ l.parts.long in
    let z₁ : start_at f 1 ≡ 64 = omega arith in
    let eights : length_at f 1 % 8 ≡ 0 = ap (λ (x : ℕ). x % 8) (sym n₂) ∙ l.parts.eights in
    let e : length_at f 1 ≡ 8 * (length_at f 1 / 8) = omega arith in
    record {
      bytes = h;
      long = omega arith;
      few = omega arith;
      some = λ q. l.parts.some (n₂ ∙ omega arith);
      size = g.head ∙ omega arith;
      sums = g.sums;
      table = t;
      start₀ = z₀;
      len₀ = w₀;
      start₁ = z₁;
      len₁ = e;
      plan = p₁ ∙ (ap (λ (x : ℕ). take x (drop (start_at f 0) f)) w₀ ∙ ap (λ (x : ℕ). take 28 (drop x f)) z₀);
      calls = p₂ ∙ (ap (λ (x : ℕ). take x (drop (start_at f 1) f)) e ∙ ap (λ (x : ℕ). take (8 * (length_at f 1 / 8)) (drop x f)) z₁);
    }

module _ (f : List ℕ) (k : ℕ) (t : Two f k) (low-form : word (part_of f 1) 0 ≤ 2) where
  abbrev xs : List Call
  xs = calls_in (part_of f 2)

  abbrev pl : Plan
  pl = plan_with (terms_in (part_of f 1))

  length_body : length (part_of f 2) ≡ 8 * k
  length_body = ap length t.calls ∙ (length-take (8 * k) (drop 64 f) ∙ omega (arith, length-drop 64 f, t.long))

  length_xs : length xs ≡ k
  length_xs = length_calls (part_of f 2) ∙ omega (arith, length_body)

  plan_word : (j : ℕ) → j < 7 → word (part_of f 1) j ≡ word f (9 + j)
  plan_word j l = ap (λ (x : List ℕ). word x j) t.plan ∙ word_of_part f 9 28 j (omega arith)

  call_word : (j : ℕ) → j < 2 * k → word (part_of f 2) j ≡ word f (16 + j)
  call_word j l = ap (λ (x : List ℕ). word x j) t.calls ∙ word_of_part f 16 (8 * k) j (omega arith)

  in_call : (j : ℕ) → j < 2 * k → word f (16 + j) ≡ get_or (call_words xs) j 0
  in_call j l = go (eqb (j % 2) 0) refl
    where
      at : (i : ℕ) → i < k → get_or xs i (call 0 0) ≡ call_at (part_of f 2) i
      at i m = call_in (part_of f 2) i (omega (arith, length_body))

      go : (b : Bool) → eqb (j % 2) 0 ≡ b → word f (16 + j) ≡ get_or (call_words xs) j 0
      go true e =
          let h = eqb-true (j % 2) 0 e in
          let q : j ≡ 2 * (j / 2) = omega arith in
          let c : get_or (call_words xs) (2 * (j / 2)) 0 ≡ word (part_of f 2) (2 * (j / 2)) = code_word xs (j / 2) (omega (arith, length_xs)) ∙ ap (λ (c : Call). c.code) (at (j / 2) (omega arith)) in
          sym (ap (λ (x : ℕ). get_or (call_words xs) x 0) q ∙ (c ∙ (ap (word (part_of f 2)) (sym q) ∙ call_word j l)))
      go false e =
          let h = eqb-false (j % 2) 0 e in
          let q : j ≡ 2 * (j / 2) + 1 = omega arith in
          let c : get_or (call_words xs) (2 * (j / 2) + 1) 0 ≡ word (part_of f 2) (2 * (j / 2) + 1) = number_word xs (j / 2) (omega (arith, length_xs)) ∙ ap (λ (c : Call). c.number) (at (j / 2) (omega arith)) in
          sym (ap (λ (x : ℕ). get_or (call_words xs) x 0) q ∙ (c ∙ (ap (word (part_of f 2)) (sym q) ∙ call_word j l)))

  -- the file's words, with the second as it stands
  abbrev ws : List ℕ
  ws = file_size (length xs) ∷ word f 1 ∷ later_words pl xs

  all_words : (i : ℕ) → i < length ws → word f i ≡ get_or ws i 0
  unfolding later_words plan_words terms_in
  all_words zero l = t.size ∙ omega (arith, length_xs)
  all_words (suc zero) l = refl
  all_words (suc (suc zero)) l = t.table.two
  all_words (suc (suc (suc zero))) l = t.table.first
  all_words (suc (suc (suc (suc zero)))) l = t.start₀
  all_words (suc (suc (suc (suc (suc zero))))) l = t.len₀
  all_words (suc (suc (suc (suc (suc (suc zero)))))) l = t.table.second
  all_words (suc (suc (suc (suc (suc (suc (suc zero))))))) l = t.start₁
  all_words (suc (suc (suc (suc (suc (suc (suc (suc zero)))))))) l = t.len₁ ∙ omega (arith, length_xs)
  all_words (suc (suc (suc (suc (suc (suc (suc (suc (suc zero))))))))) l = sym (form_forth (word (part_of f 1) 0) low-form ∙ plan_word 0 (lit< tt))
  all_words (suc (suc (suc (suc (suc (suc (suc (suc (suc (suc zero)))))))))) l = sym (plan_word 1 (lit< tt))
  all_words (suc (suc (suc (suc (suc (suc (suc (suc (suc (suc (suc zero))))))))))) l = sym (plan_word 2 (lit< tt))
  all_words (suc (suc (suc (suc (suc (suc (suc (suc (suc (suc (suc (suc zero)))))))))))) l = sym (plan_word 3 (lit< tt))
  all_words (suc (suc (suc (suc (suc (suc (suc (suc (suc (suc (suc (suc (suc zero))))))))))))) l = sym (plan_word 4 (lit< tt))
  all_words (suc (suc (suc (suc (suc (suc (suc (suc (suc (suc (suc (suc (suc (suc zero)))))))))))))) l = sym (plan_word 5 (lit< tt))
  all_words (suc (suc (suc (suc (suc (suc (suc (suc (suc (suc (suc (suc (suc (suc (suc zero))))))))))))))) l = sym (plan_word 6 (lit< tt))
  all_words (suc (suc (suc (suc (suc (suc (suc (suc (suc (suc (suc (suc (suc (suc (suc (suc j)))))))))))))))) l =
      let e : 16 + j ≡ suc (suc (suc (suc (suc (suc (suc (suc (suc (suc (suc (suc (suc (suc (suc (suc j))))))))))))))) = omega arith in
      ap (word f) (sym e) ∙ in_call j (omega (arith, length_words xs, length_xs))

  fit_words : Fit (call_words xs)
  fit_words = fit_of (call_words xs) (λ i. go i (ltb i (2 * k)) refl)
    where
      go : (i : ℕ) (b : Bool) → ltb i (2 * k) ≡ b → get_or (call_words xs) i 0 < 2 ^ 32
      go i true e = rw (← in_call i (ltb-true i (2 * k) e)) (word_fits f (16 + i) t.bytes)
      go i false e = rw (get_or-eq_default (call_words xs) 0 {n = i} (omega (arith, length_words xs, length_xs, ltb-false i (2 * k) e))) (lit< tt)

  -- the file is the one that is written
  same_file : PlanFits pl → f ≡ file_of pl xs
  unfolding file_words
  same_file s =
      let n = length_xs in
      let later = later_words pl xs in
      let lr = length_later pl xs in
      let b : f ≡ bytes_of ws = of_words ws f (t.long ∙ omega arith) t.bytes all_words in
      let fit : Fit ws = more {w = file_size (length xs)} (omega (arith, t.few)) (more (word_fits f 1 t.bytes) (fit_later pl xs s (omega (arith, t.few)) fit_words)) in
      let sum : (file_size (length xs) + (word f 1 + total later)) % 2 ^ 32 ≡ 0 =
      ap (λ (x : ℕ). x % 2 ^ 32) (sym (two_total (file_size (length xs)) (word f 1) later)) ∙ (sym (sum_written ws fit) ∙ (ap wrapped_sum (sym b) ∙ t.sums)) in
      let is : word f 1 ≡ closing_word (file_size (length xs) + total later) = solving (file_size (length xs)) (word f 1) (total later) sum (word_fits f 1 t.bytes) in
      b ∙ ap (λ (x : ℕ). bytes_of (file_size (length xs) ∷ x ∷ later)) is
    where
      solving : (a w r : ℕ) → (a + (w + r)) % 2 ^ 32 ≡ 0 → w < 2 ^ 32 → w ≡ (2 ^ 32 - (a + r) % 2 ^ 32) % 2 ^ 32
      solving a w r h l = omega arith

-- ---- the writer accepts what was read

pub calls_accepted : (cs ns : List ℕ) (room : ℕ) → (length cs ≡ 0 → ⊥) → length cs ≤ 8184 → length ns ≡ length cs → calls_right (paired cs ns) ≡ true → file_size (length cs) ≤ room → verdict_of (calls_reasons cs ns room) ≡ (Ok tt)
unfolding calls_reasons verdict_of
calls_accepted cs ns room c d e g h = rw (ne_eqb (length cs) 0 c, le-leb (length cs) 8184 d, eq-eqb (length ns) (length cs) e, g, le-ltb room (file_size (length cs)) h)

pub write_accepted : (p : Plan) (cs ns : List ℕ) (room : ℕ) → is_accepted (plan_verdict p) ≡ true → verdict_of (calls_reasons cs ns room) ≡ (Ok tt) → write_verdict p cs ns room ≡ (Ok tt)
write_accepted p cs ns room a b = write_then p cs ns room ∙ (ap (λ (v : Result ⊤ Refusal). then v (verdict_of (calls_reasons cs ns room))) (accepted_is (plan_verdict p) a) ∙ b)

pub written_is : (p : Plan) (cs ns buf : List ℕ) → write_verdict p cs ns (length buf) ≡ (Ok tt) → written_of p cs ns buf ≡ Ok (file_size (length cs))
unfolding written_of
written_is p cs ns buf h = ap (λ (v : Result ⊤ Refusal). write_answer v (file_size (length cs))) h

again : (f buf : List ℕ) → Bytes f → Reads f → PlanThenCalls f → length f ≤ length buf → WritesAs (plan_with (terms_in (part_of f 1))) f buf
again f buf h l tab r =
    let k = length_at f 1 / 8 in
    let t = two_of f h l tab in
    let low = l.parts.form in
    let p = plan_with (terms_in (part_of f 1)) in
    let zs = calls_in (part_of f 2) in
    let e : calls_of f ≡ zs = ap calls_in (section_is f 2 (found f 2 l.file l.two)) in
    let cs = codes_of zs in
    let ns = numbers_of zs in
    let n : length zs ≡ k = length_xs f k t low in
    let lc = length_codes zs in
    let ln = length-numbers zs in
    let pair : paired cs ns ≡ zs = paired_again zs in
    let ok : write_verdict p cs ns (length buf) ≡ (Ok tt) =
    write_accepted p cs ns (length buf) l.parts.plan (calls_accepted cs ns (length buf) (λ z. t.some (sym n ∙ (sym lc ∙ z))) (omega (arith, t.few)) (ln ∙ sym lc) (ap calls_right pair ∙ l.parts.right) (omega (arith, t.long))) in
    let size : file_size (length cs) ≡ length f = omega (arith, t.long) in
    let same : file_of p (paired cs ns) ≡ f = ap (file_of p) pair ∙ sym (same_file f k t low (plan_fits p l.parts.plan)) in
    record {
      answer = ap (λ (ys : List Call). written_of p (codes_of ys) (numbers_of ys) buf) e ∙ (written_is p cs ns buf ok ∙ ap Ok size);
      bytes =
          ap (λ (ys : List Call). buffer_of p (codes_of ys) (numbers_of ys) buf) e
          ∙ (buffer_is p cs ns buf ok ∙ (ap (λ (g : List ℕ). g ++ drop (file_size (length cs)) buf) same ∙ ap (λ (m : ℕ). f ++ drop m buf) size));
    }

pub read_writes_again : ReadWritesAgain
read_writes_again f buf p n h tab e r =
    let a = answers f p n e in
    rw a.plan at (again f buf h (reads f a.accepted) tab r)
