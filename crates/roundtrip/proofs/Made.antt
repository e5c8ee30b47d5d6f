-- A file of two sections, plan and calls: its table, and its words where it was written. Assumes nothing.
use mathlib.Core.Path.{◌≡◌, refl, sym, ◌∙◌, ap}
use mathlib.Core.Bool.{Bool, true, cond}
use mathlib.Core.List.{List, [], ◌∷◌, ◌++◌, append_assoc}
use Prim.Native.Nat.{ℕ, ◌+◌, ◌*◌, ◌-◌, ◌%◌, ◌^◌, ◌≤◌}
use native.Mathlib.Nat.{zero-add}
use native.Mathlib.Omega.{arith}
use lib.Dec.{eqb}
use lib.ListN.{length, take, drop, length-append}
use lib.Seq.{take_at, drop_at, take_all}
use borrow.Author.Tests.{eq-eqb, ne_eqb}
use Rattle.words.specs.Words.{word, bytes_of, wrapped_sum, total, closing_word}
use Rattle.words.proofs.Written.{length-bytes_of, bytes_of-append}
use Rattle.words.proofs.Read.{Fit, more, word_in, sum_written}
use Rattle.tariff.specs.declared.Plan.{Plan}
use Rattle.tariff.specs.Tests.{is_accepted}
use Rattle.tariff.proofs.Tests.{and_both}
use Rattle.sections.specs.Table.{section_count, kind_at, body_start, follow_to, file_verdict}
use Rattle.sections.specs.Find.{one_if, times_to, entry_to, just_once, body_at, part_of}
use Rattle.sections.proofs.Table.{kept}
use Rattle.tripfile.specs.Bodies.{Call, plan_words, call_words, PlanFits}
use Rattle.tripfile.specs.Writing.{file_size, later_words, file_words, file_of}
use Rattle.tripfile.proofs.Listed.{length_words}
use Rattle.tripfile.proofs.Filled.{length_plan, length_later, fit_later}
use Rattle.roundtrip.specs.Trips.{PlanThenCalls}

-- ---- a table of two entries, plan and calls

times_two : (f : List ℕ) (k : ℕ) → times_to f k 2 ≡ one_if (eqb (kind_at f 0) k) + one_if (eqb (kind_at f 1) k)
unfolding times_to
times_two f k = ap (λ (x : ℕ). x + one_if (eqb (kind_at f 1) k)) (zero-add (one_if (eqb (kind_at f 0) k)))

entry_two : (f : List ℕ) (k : ℕ) → entry_to f k 2 ≡ cond (eqb (kind_at f 1) k) 1 (cond (eqb (kind_at f 0) k) 0 0)
unfolding entry_to
entry_two f k = refl

module _ (f : List ℕ) (t : PlanThenCalls f) where
  pub plan_once : just_once f 1 ≡ true
  unfolding just_once
  plan_once =
      let a = eq-eqb (kind_at f 0) 1 t.first in
      let b = ne_eqb (kind_at f 1) 1 (λ h. omega (arith, t.second)) in
      eq-eqb (times_to f 1 (section_count f)) 1 (ap (times_to f 1) t.two ∙ (times_two f 1 ∙ (ap (λ (x : Bool). one_if x + one_if (eqb (kind_at f 1) 1)) a ∙ ap (λ (x : Bool). 1 + one_if x) b)))

  pub calls_once : just_once f 2 ≡ true
  unfolding just_once
  calls_once =
      let a = ne_eqb (kind_at f 0) 2 (λ h. omega (arith, t.first)) in
      let b = eq-eqb (kind_at f 1) 2 t.second in
      eq-eqb (times_to f 2 (section_count f)) 1 (ap (times_to f 2) t.two ∙ (times_two f 2 ∙ (ap (λ (x : Bool). one_if x + one_if (eqb (kind_at f 1) 2)) a ∙ ap (λ (x : Bool). 0 + one_if x) b)))

  pub plan_part : part_of f 1 ≡ body_at f 0
  unfolding part_of
  plan_part =
      let b = ne_eqb (kind_at f 1) 1 (λ h. omega (arith, t.second)) in
      let a = eq-eqb (kind_at f 0) 1 t.first in
      ap (body_at f) (ap (entry_to f 1) t.two ∙ (entry_two f 1 ∙ (ap (λ (x : Bool). cond x 1 (cond (eqb (kind_at f 0) 1) 0 0)) b ∙ ap (λ (x : Bool). cond x 0 0) a)))

  pub calls_part : part_of f 2 ≡ body_at f 1
  unfolding part_of
  calls_part =
      let b = eq-eqb (kind_at f 1) 2 t.second in
      ap (body_at f) (ap (entry_to f 2) t.two ∙ (entry_two f 2 ∙ ap (λ (x : Bool). cond x 1 (cond (eqb (kind_at f 0) 2) 0 0)) b))

-- ---- a written file

pub record Made (f : List ℕ) (p : Plan) (xs : List Call) : Type 0 where
  pub long : length f ≡ 64 + 8 * length xs
  pub size : word f 0 ≡ 64 + 8 * length xs
  pub sums : wrapped_sum f ≡ 0
  pub table : PlanThenCalls f
  pub start₀ : word f 4 ≡ 36
  pub len₀ : word f 5 ≡ 28
  pub start₁ : word f 7 ≡ 64
  pub len₁ : word f 8 ≡ 8 * length xs
  pub plan : take 28 (drop 36 f) ≡ bytes_of (plan_words p)
  pub calls : take (8 * length xs) (drop 64 f) ≡ bytes_of (call_words xs)

fit_file : (p : Plan) (xs : List Call) → PlanFits p → length xs ≤ 8184 → Fit (call_words xs) → Fit (file_words p xs)
unfolding file_words
fit_file p xs s l h = more {w = file_size (length xs)} (omega arith) (more {w = closing_word (file_size (length xs) + total (later_words p xs))} (omega arith) (fit_later p xs s l h))

length_words_of_file : (p : Plan) (xs : List Call) → length (file_words p xs) ≡ 16 + 2 * length xs
unfolding file_words
length_words_of_file p xs = omega (arith, length_later p xs)

pub length_file : (p : Plan) (xs : List Call) → length (file_of p xs) ≡ file_size (length xs)
length_file p xs = length-bytes_of (file_words p xs) ∙ omega (arith, length_words_of_file p xs)

total_file : (p : Plan) (xs : List Call) → total (file_words p xs) % 2 ^ 32 ≡ 0
unfolding file_words total
total_file p xs = zeroes (file_size (length xs)) (total (later_words p xs))
  where
    zeroes : (a t : ℕ) → (a + ((2 ^ 32 - (a + t) % 2 ^ 32) % 2 ^ 32 + t)) % 2 ^ 32 ≡ 0
    zeroes a t = omega arith

-- the nine words before the bodies
abbrev head : Plan → List Call → List ℕ
head p xs = file_size (length xs) ∷ closing_word (file_size (length xs) + total (later_words p xs)) ∷ 2 ∷ 1 ∷ 36 ∷ 28 ∷ 2 ∷ 64 ∷ 8 * length xs ∷ []

file_is : (p : Plan) (xs : List Call) → file_words p xs ≡ (head p xs ++ plan_words p) ++ call_words xs
unfolding file_words later_words plan_words
file_is p xs = refl

pub made : (p : Plan) (xs : List Call) → PlanFits p → length xs ≤ 8184 → Fit (call_words xs) → Made (file_of p xs) p xs
unfolding file_words later_words
made p xs s l h =
    let ws = file_words p xs in
    let fit = fit_file p xs s l h in
    let n = length_words_of_file p xs in
    let H = bytes_of (head p xs) in
    let Q = bytes_of (plan_words p) in
    let K = bytes_of (call_words xs) in
    let lH : length H ≡ 36 = length-bytes_of (head p xs) in
    let lQ : length Q ≡ 28 = length-bytes_of (plan_words p) ∙ ap (λ (n : ℕ). 4 * n) (length_plan p) in
    let lK : length K ≡ 8 * length xs = length-bytes_of (call_words xs) ∙ omega (arith, length_words xs) in
    let parts : bytes_of ws ≡ (H ++ Q) ++ K = ap bytes_of (file_is p xs) ∙ rw (bytes_of-append (head p xs ++ plan_words p) (call_words xs), bytes_of-append (head p xs) (plan_words p)) in
    record {
      long = length_file p xs;
      size = word_in ws 0 (omega arith) fit;
      sums = sum_written ws fit ∙ total_file p xs;
      table = record { two = word_in ws 2 (omega arith) fit; first = word_in ws 3 (omega arith) fit; second = word_in ws 6 (omega arith) fit };
      start₀ = word_in ws 4 (omega arith) fit;
      len₀ = word_in ws 5 (omega arith) fit;
      start₁ = word_in ws 7 (omega arith) fit;
      len₁ = word_in ws 8 (omega arith) fit;
      plan = ap (λ (x : List ℕ). take 28 (drop 36 x)) (parts ∙ append_assoc H Q K) ∙ (ap (take 28) (drop_at H (Q ++ K) 36 lH) ∙ take_at Q K 28 lQ);
      calls = ap (λ (x : List ℕ). take (8 * length xs) (drop 64 x)) parts ∙ (ap (take (8 * length xs)) (drop_at (H ++ Q) K 64 (length-append H Q ∙ omega arith)) ∙ take_all (8 * length xs) K (omega arith));
    }

-- ---- 10, 11 and 12 do not decline it

follow_two : {f : List ℕ} {p : Plan} {xs : List Call} → Made f p xs → follow_to f 2 ≡ true
unfolding follow_to body_start
follow_two {f} {p} {xs} m =
    let c = m.table.two in
    let c₁ = eq-eqb (word f 4) (12 + 12 * section_count f) (omega (arith, c, m.start₀)) in
    let c₂ = eq-eqb (word f 5 % 4) 0 (ap (λ (x : ℕ). x % 4) m.len₀) in
    let c₃ = eq-eqb (word f 7) (12 + 12 * section_count f + word f 5) (omega (arith, m.start₁, m.len₀, c)) in
    let c₄ = eq-eqb (word f 8 % 4) 0 (omega (arith, m.len₁)) in
    and_both _ _ (and_both _ _ (and_both _ _ c₁ c₂) c₃) c₄

end_two : {f : List ℕ} {p : Plan} {xs : List Call} → Made f p xs → body_start f 2 ≡ length f
unfolding body_start
end_two {f} m = omega (arith, m.table.two, m.len₀, m.len₁, m.long)

pub file_accepted : {f : List ℕ} {p : Plan} {xs : List Call} → Made f p xs → length xs ≤ 8184 → is_accepted (file_verdict f) ≡ true
file_accepted {f} m l =
    let c = m.table.two in
    kept f (record {
      long = omega (arith, m.long);
      short = omega (arith, m.long);
      fours = omega (arith, m.long);
      head = m.size ∙ sym m.long;
      sums = m.sums;
      some = omega (arith, c);
      few = omega (arith, c);
      room = omega (arith, c, m.long);
      follow = ap (follow_to f) c ∙ follow_two m;
      ends = ap (body_start f) c ∙ end_two m;
    })

pub plan_bytes : {f : List ℕ} {p : Plan} {xs : List Call} → Made f p xs → part_of f 1 ≡ bytes_of (plan_words p)
plan_bytes {f} m = plan_part f m.table ∙ (ap (λ (n : ℕ). take n (drop (word f 4) f)) m.len₀ ∙ (ap (λ (n : ℕ). take 28 (drop n f)) m.start₀ ∙ m.plan))

pub calls_bytes : {f : List ℕ} {p : Plan} {xs : List Call} → Made f p xs → part_of f 2 ≡ bytes_of (call_words xs)
calls_bytes {f} {p} {xs} m = calls_part f m.table ∙ (ap (λ (n : ℕ). take n (drop (word f 7) f)) m.len₁ ∙ (ap (λ (n : ℕ). take (8 * length xs) (drop n f)) m.start₁ ∙ m.calls))
