-- What was written reads back as the same plan and calls. Assumes nothing.
use mathlib.Core.Path.{◌≡◌, refl, sym, ◌∙◌, ap}
use mathlib.Core.Bool.{Bool, true, cond, ◌&&◌, not}
use mathlib.Core.List.{List, [], ◌∷◌, ◌++◌}
use Prim.Native.Nat.{ℕ, zero, suc, ◌+◌, ◌*◌, ◌/◌, ◌%◌, ◌≤◌}
use native.Mathlib.Omega.{arith}
use lib.Dec.{eqb, lit<, lit≤}
use lib.ListN.{length, get_or, take, drop}
use lib.Seq.{take_at, take_all, take-suc}
use borrow.Author.Tests.{eq-eqb, ne_eqb}
use Rattle.words.specs.Words.{word, bytes_of}
use Rattle.std.proofs.lemmas.Result.{IfOk-at_ok}
use Rattle.words.proofs.Written.{length-bytes_of}
use Rattle.words.proofs.Read.{Fit, fit_of, word_in}
use Rattle.tariff.specs.declared.Plan.{Plan}
use Rattle.tariff.specs.declared.Form.{Form}
use Rattle.tariff.specs.declared.Form.TheVariants.{Prepaid, Bundle, Unlimited}
use Rattle.tariff.specs.Tests.{verdict_of, is_accepted}
use Rattle.tariff.specs.Plan.{form_word, form_of, plan_with, plan_verdict, terms_reasons}
use Rattle.tariff.proofs.Tests.{and_both}
use Rattle.tariff.proofs.PlanLaws.{known_form}
use Rattle.sections.specs.Table.{file_verdict}
use Rattle.sections.specs.Find.{just_once, part_of}
use Rattle.tariff.proofs.Verdicts.{then, accepted_is}
use Rattle.sections.proofs.Finding.{found, section_is}
use Rattle.tripfile.specs.Bodies.{Call, call, call_at, first_calls, calls_in, call_words, plan_words, terms_in, paired, codes_of, numbers_of, calls_right, PlanFits}
use Rattle.tripfile.specs.Reading.{calls_body_right, body_reasons, read_verdict, trip, read_answer, read_of, calls_of}
use Rattle.tripfile.specs.Writing.{file_size, file_of, write_verdict, write_answer, written_of, filled_or_kept, buffer_of}
use Rattle.tripfile.proofs.Listed.{length_words, length-paired, code_word, number_word, fit_calls, codes_paired, numbers_paired}
use Rattle.tripfile.proofs.Accepted.{Writes, writes, plan_fits, read_then}
use Rattle.tripfile.proofs.Filled.{fit_plan, length_plan}
use Rattle.roundtrip.specs.Trips.{ReadsAs, WrittenReadsBack}
use Rattle.roundtrip.proofs.Made.{made, length_file, file_accepted, plan_once, calls_once, plan_bytes, calls_bytes}
use Rattle.std.specs.Prelude.{Result, Ok, Err, ⊤}
use Rattle.tariff.specs.declared.Refusal.{Refusal}
use Rattle.tariff.specs.declared.Refusal.TheVariants.{NotOnce}

-- ---- the plan

form_back : (f : Form) → form_of (form_word f) ≡ f
unfolding form_of
form_back Prepaid = refl
form_back Bundle = refl
form_back Unlimited = refl

form_low : (f : Form) → form_word f ≤ 2
form_low Prepaid = lit≤ tt
form_low Bundle = lit≤ tt
form_low Unlimited = lit≤ tt

plan_back : (p : Plan) → PlanFits p → plan_with (terms_in (bytes_of (plan_words p))) ≡ p
unfolding terms_in plan_words
plan_back p s =
    let ws = plan_words p in
    let fit = fit_plan p s in
    λ i. record {
      form = (ap form_of (word_in ws 0 (lit< tt) fit) ∙ form_back p.form) i;
      start = word_in ws 1 (lit< tt) fit i;
      pergb = word_in ws 2 (lit< tt) fit i;
      perminute = word_in ws 3 (lit< tt) fit i;
      persms = word_in ws 4 (lit< tt) fit i;
      fee = word_in ws 5 (lit< tt) fit i;
      volume = word_in ws 6 (lit< tt) fit i;
    }

form_first : (p : Plan) → PlanFits p → (terms_in (bytes_of (plan_words p))).form ≤ 2
unfolding terms_in plan_words
form_first p s = rw (word_in (plan_words p) 0 (lit< tt) (fit_plan p s)) (form_low p.form)

-- ---- the calls

first_back : (xs : List Call) (n : ℕ) → n ≤ length xs → Fit (call_words xs) → first_calls (bytes_of (call_words xs)) n ≡ take n xs
unfolding first_calls
first_back xs zero l h = refl
first_back xs (suc n) l h =
    let b = bytes_of (call_words xs) in
    let c : word b (2 * n) ≡ (get_or xs n (call 0 0)).code = word_in (call_words xs) (2 * n) (omega (arith, length_words xs)) h ∙ code_word xs n (omega arith) in
    let d : word b (2 * n + 1) ≡ (get_or xs n (call 0 0)).number = word_in (call_words xs) (2 * n + 1) (omega (arith, length_words xs)) h ∙ number_word xs n (omega arith) in
    let e : call_at b n ≡ get_or xs n (call 0 0) = λ i. record { code = c i; number = d i } in
    ap (λ (ys : List Call). ys ++ (call_at b n ∷ [])) (first_back xs n (omega arith) h)
    ∙ (ap (λ (y : Call). take n xs ++ (y ∷ [])) e ∙ sym (take-suc xs n (call 0 0) (omega arith)))

length_body : (xs : List Call) → length (bytes_of (call_words xs)) ≡ 8 * length xs
length_body xs = length-bytes_of (call_words xs) ∙ omega (arith, length_words xs)

calls_back : (xs : List Call) → Fit (call_words xs) → calls_in (bytes_of (call_words xs)) ≡ xs
unfolding calls_in
calls_back xs h =
    let b = bytes_of (call_words xs) in
    let n : length b / 8 ≡ length xs = omega (arith, length_body xs) in
    ap (first_calls b) n ∙ (first_back xs (length xs) (omega arith) h ∙ take_all (length xs) xs (omega arith))

-- ---- the whole

terms_accepted : (p : Plan) → PlanFits p → is_accepted (plan_verdict p) ≡ true → is_accepted (verdict_of (terms_reasons (terms_in (bytes_of (plan_words p))))) ≡ true
terms_accepted p s h =
    let t = terms_in (bytes_of (plan_words p)) in
    rw (known_form t (form_first p s)) (ap (λ (q : Plan). is_accepted (plan_verdict q)) (plan_back p s) ∙ h)

sizes_right : (q k : List ℕ) → length q ≡ 28 → (length k ≡ 0 → ⊥) → length k % 8 ≡ 0 → (eqb (length q) 28 && calls_body_right k) ≡ true
sizes_right q k a b c = rw (eq-eqb (length q) 28 a, ne_eqb (length k) 0 b, eq-eqb (length k % 8) 0 c)

pub read_accepted : (f : List ℕ) → is_accepted (file_verdict f) ≡ true → just_once f 1 ≡ true → just_once f 2 ≡ true → is_accepted (verdict_of (body_reasons (part_of f 1) (part_of f 2))) ≡ true → read_verdict f ≡ (Ok tt)
read_accepted f a b c d =
    let v = verdict_of (body_reasons (part_of f 1) (part_of f 2)) in
    read_then f
    ∙ (ap (λ (w : Result ⊤ Refusal). then w (cond (not (just_once f 1 && just_once f 2)) (Err NotOnce) v)) (accepted_is (file_verdict f) a)
    ∙ (ap (λ (x : Bool). cond (not x) (Err NotOnce) v) (and_both (just_once f 1) (just_once f 2) b c) ∙ accepted_is v d))

bodies_then : (p c : List ℕ) → (eqb (length p) 28 && calls_body_right c) ≡ true → calls_right (calls_in c) ≡ true → verdict_of (body_reasons p c) ≡ verdict_of (terms_reasons (terms_in p))
unfolding body_reasons verdict_of
bodies_then p c a b = rw (a, b)

read_is : (f : List ℕ) → read_verdict f ≡ (Ok tt) → read_of f ≡ Ok (trip (plan_with (terms_in (part_of f 1))) (length (part_of f 2) / 8))
unfolding read_of
read_is f h = ap (λ (v : Result ⊤ Refusal). read_answer v (plan_with (terms_in (part_of f 1))) (length (part_of f 2) / 8)) h

back : (p : Plan) (cs ns : List ℕ) (room : ℕ) → Fit cs → Fit ns → Writes p cs ns room → ReadsAs (file_of p (paired cs ns)) p cs ns
back p cs ns room g h w =
    let s = plan_fits p w.plan in
    let xs = paired cs ns in
    let n = length-paired cs ns w.same in
    let fit = fit_calls cs ns g h in
    let f = file_of p xs in
    let few : length xs ≤ 8184 = omega (arith, w.few) in
    let m = made p xs s few fit in
    let Q = bytes_of (plan_words p) in
    let K = bytes_of (call_words xs) in
    let lQ : length Q ≡ 28 = length-bytes_of (plan_words p) ∙ ap (λ (k : ℕ). 4 * k) (length_plan p) in
    let lK = length_body xs in
    let eighth : length K / 8 ≡ length cs = omega arith in
    let ok = file_accepted m few in
    let o₁ = plan_once f m.table in
    let o₂ = calls_once f m.table in
    let right : calls_right (calls_in K) ≡ true = ap calls_right (calls_back xs fit) ∙ w.right in
    let bodies : is_accepted (verdict_of (body_reasons Q K)) ≡ true =
    ap is_accepted (bodies_then Q K (sizes_right Q K lQ (λ e. w.some (omega arith)) (omega arith)) right) ∙ terms_accepted p s w.plan in
    let bodies' : is_accepted (verdict_of (body_reasons (part_of f 1) (part_of f 2))) ≡ true =
    ap (λ (x : List ℕ). is_accepted (verdict_of (body_reasons x (part_of f 2)))) (plan_bytes m) ∙ (ap (λ (x : List ℕ). is_accepted (verdict_of (body_reasons Q x))) (calls_bytes m) ∙ bodies) in
    let calls : calls_of f ≡ xs = ap calls_in (section_is f 2 (found f 2 ok o₂) ∙ calls_bytes m) ∙ calls_back xs fit in
    record {
      answer =
          read_is f (read_accepted f ok o₁ o₂ bodies')
          ∙ (ap (λ (x : List ℕ). Ok (trip (plan_with (terms_in x)) (length (part_of f 2) / 8))) (plan_bytes m)
          ∙ (ap (λ (x : List ℕ). Ok (trip (plan_with (terms_in Q)) (length x / 8))) (calls_bytes m)
          ∙ (ap (λ (q : Plan). Ok (trip q (length K / 8))) (plan_back p s) ∙ ap (λ (n : ℕ). Ok (trip p n)) eighth)));
      codes = ap codes_of calls ∙ codes_paired cs ns w.same;
      numbers = ap numbers_of calls ∙ numbers_paired cs ns w.same;
    }

-- an answer of n bytes is that of an accepted write
record Answers (p : Plan) (cs ns buf : List ℕ) (n : ℕ) : Type 0 where
  pub accepted : write_verdict p cs ns (length buf) ≡ (Ok tt)
  pub size : n ≡ file_size (length cs)

answers : (p : Plan) (cs ns buf : List ℕ) (n : ℕ) → written_of p cs ns buf ≡ Ok n → Answers p cs ns buf n
unfolding written_of
answers p cs ns buf n h = go (write_verdict p cs ns (length buf)) refl h
  where
    go : (v : Result ⊤ Refusal) → write_verdict p cs ns (length buf) ≡ v → write_answer v (file_size (length cs)) ≡ Ok n → Answers p cs ns buf n
    go (Ok tt) e g = record { accepted = e; size = IfOk-at_ok (λ (m : ℕ). m ≡ file_size (length cs)) g refl }
    go (Err r) e g = cc

pub buffer_is : (p : Plan) (cs ns buf : List ℕ) → write_verdict p cs ns (length buf) ≡ (Ok tt) → buffer_of p cs ns buf ≡ file_of p (paired cs ns) ++ drop (file_size (length cs)) buf
unfolding buffer_of
buffer_is p cs ns buf h = ap (λ (v : Result ⊤ Refusal). filled_or_kept v (file_of p (paired cs ns) ++ drop (file_size (length cs)) buf) buf) h

pub written_reads_back : WrittenReadsBack
written_reads_back p cs ns buf n hc hn h =
    let a = answers p cs ns buf n h in
    let w = writes p cs ns (length buf) (ap is_accepted a.accepted) in
    let xs = paired cs ns in
    let long : length (file_of p xs) ≡ n = length_file p xs ∙ (ap file_size (length-paired cs ns w.same) ∙ sym a.size) in
    let e : take n (buffer_of p cs ns buf) ≡ file_of p xs = ap (take n) (buffer_is p cs ns buf a.accepted) ∙ take_at (file_of p xs) (drop (file_size (length cs)) buf) n long in
    rw e (back p cs ns (length buf) (fit_of cs hc) (fit_of ns hn) w)
