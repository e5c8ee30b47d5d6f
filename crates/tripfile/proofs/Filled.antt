-- The writer's run: what each step leaves in the buffer, and what stands there at the end. Assumes nothing.
use mathlib.Core.Path.{◌≡◌, refl, sym, ◌∙◌, ap}
use mathlib.Core.List.{List, [], ◌∷◌, ◌++◌, append_assoc}
use Prim.Native.Nat.{ℕ, ◌+◌, ◌*◌, ◌-◌, ◌%◌, ◌^◌, ◌≤◌, ◌<◌}
use native.Mathlib.Omega.{arith}
use lib.Dec.{lit<}
use lib.ListN.{length, take, drop, length-append, length-take, length-drop, take-append-drop}
use lib.Seq.{take_at, drop_at, drop-append-le, drop-drop}
use Rattle.words.specs.Words.{bytes_of, with_word, wrapped_sum, total, closing_word}
use Rattle.words.proofs.Written.{length-bytes_of, bytes_of-append, second_word}
use Rattle.words.proofs.Read.{Fit, none, more, fit_append, sum_written, two_total}
use Rattle.tariff.specs.declared.Plan.{Plan}
use Rattle.tariff.specs.declared.Form.{Form}
use Rattle.tariff.specs.declared.Form.TheVariants.{Prepaid, Bundle, Unlimited}
use Rattle.tariff.specs.Plan.{form_word}
use Rattle.tripfile.specs.Bodies.{Call, plan_words, call_words, paired, PlanFits}
use Rattle.tripfile.specs.Writing.{file_size, later_words, file_words, file_of, Ready}
use Rattle.tripfile.proofs.Listed.{length_words, length-paired, fit_calls}

-- ---- the buffer, part by part

-- ys in the place of the k bytes from a on: what a part that was lent leaves of the whole
abbrev pub put_part : ℕ → ℕ → List ℕ → List ℕ → List ℕ
put_part a k xs ys = take a xs ++ (ys ++ drop k (drop a xs))

-- a part that starts after P, and whose first n bytes are written
part_after : (P D w : List ℕ) (a k n : ℕ) → length P ≡ a → n ≤ k → k ≤ length D
    → put_part a k (P ++ D) (w ++ drop n (take k (drop a (P ++ D)))) ≡ (P ++ w) ++ drop n D
part_after P D w a k n h l m =
    let t = take_at P D a h in
    let d = drop_at P D a h in
    let j : drop n (take k D) ++ drop k D ≡ drop n D = sym (drop-append-le n (take k D) (drop k D) (simp length-take (omega arith))) ∙ ap (drop n) (take-append-drop k D) in
    rw (t, d, append_assoc w, j, append_assoc P)

part_step : (xs P D w l : List ℕ) (a k n : ℕ) → xs ≡ P ++ D → l ≡ w ++ drop n (take k (drop a xs)) → length P ≡ a → n ≤ k → k ≤ length D → put_part a k xs l ≡ (P ++ w) ++ drop n D
part_step xs P D w l a k n e f h m o =
    ap (put_part a k xs) f ∙ (ap (λ (x : List ℕ). put_part a k x (w ++ drop n (take k (drop a x)))) e ∙ part_after P D w a k n h m o)

-- the words before the bodies, with 0 for the one that makes the sum 0
abbrev pub front : ℕ → ℕ → List ℕ
front size long = size ∷ 0 ∷ 2 ∷ 1 ∷ 36 ∷ 28 ∷ 2 ∷ 64 ∷ long ∷ []

unfoldable open_words : Plan → List Call → List ℕ
open_words p xs = file_size (length xs) ∷ 0 ∷ later_words p xs

open_is : (p : Plan) (xs : List Call) → open_words p xs ≡ (front (file_size (length xs)) (8 * length xs) ++ plan_words p) ++ call_words xs
unfolding open_words later_words plan_words
open_is p xs = refl

pub length_plan : (p : Plan) → length (plan_words p) ≡ 7
unfolding plan_words
length_plan p = refl

-- front, plan and calls written in turn
three_parts : (p : Plan) (xs : List Call) (buf l₁ l₂ l₃ : List ℕ) → file_size (length xs) ≤ length buf
    → l₁ ≡ bytes_of (front (file_size (length xs)) (8 * length xs)) ++ drop 36 (take 36 buf)
    → l₂ ≡ bytes_of (plan_words p) ++ drop 28 (take 28 (drop 36 (put_part 0 36 buf l₁)))
    → l₃ ≡ bytes_of (call_words xs) ++ drop (8 * length xs) (take (length (put_part 36 28 (put_part 0 36 buf l₁) l₂) - 64) (drop 64 (put_part 36 28 (put_part 0 36 buf l₁) l₂)))
    → put_part 64 (length (put_part 36 28 (put_part 0 36 buf l₁) l₂) - 64) (put_part 36 28 (put_part 0 36 buf l₁) l₂) l₃ ≡ bytes_of (open_words p xs) ++ drop (file_size (length xs)) buf
three_parts p xs buf l₁ l₂ l₃ h e₁ e₂ e₃ =
    let F = front (file_size (length xs)) (8 * length xs) in
    let H = bytes_of F in
    let Q = bytes_of (plan_words p) in
    let K = bytes_of (call_words xs) in
    let lH : length H ≡ 36 = length-bytes_of F in
    let lQ : length Q ≡ 28 = length-bytes_of (plan_words p) ∙ ap (λ (n : ℕ). 4 * n) (length_plan p) in
    let b₁ = put_part 0 36 buf l₁ in
    let b₂ = put_part 36 28 b₁ l₂ in
    let s₁ : b₁ ≡ H ++ drop 36 buf = part_step buf [] buf H l₁ 0 36 36 refl e₁ refl (omega arith) (omega arith) in
    let d₁ = length-drop 36 buf in
    let s₂ : b₂ ≡ (H ++ Q) ++ drop 28 (drop 36 buf) = part_step b₁ H (drop 36 buf) Q l₂ 36 28 28 s₁ e₂ lH (omega arith) (omega arith) in
    let d₂ = length-drop 28 (drop 36 buf) in
    let lHQ = length-append H Q in
    let lb₂ = ap length s₂ ∙ length-append (H ++ Q) (drop 28 (drop 36 buf)) in
    let s₃ = part_step b₂ (H ++ Q) (drop 28 (drop 36 buf)) K l₃ 64 (length b₂ - 64) (8 * length xs) s₂ e₃ (omega arith) (omega arith) (omega arith) in
    s₃ ∙ rw (drop-drop 28 36 buf, drop-drop (8 * length xs) 64 buf, open_is p xs, bytes_of-append (F ++ plan_words p) (call_words xs), bytes_of-append F (plan_words p))

-- ---- every word of the file fits 32 bits

form_fits : (f : Form) → form_word f < 2 ^ 32
form_fits Prepaid = lit< tt
form_fits Bundle = lit< tt
form_fits Unlimited = lit< tt

pub fit_plan : (p : Plan) → PlanFits p → Fit (plan_words p)
unfolding plan_words
fit_plan p s = more (form_fits p.form) (more s.start (more s.gigabyte (more s.minute (more s.message (more s.money (more s.kilobytes none))))))

pub fit_later : (p : Plan) (xs : List Call) → PlanFits p → length xs ≤ 8184 → Fit (call_words xs) → Fit (later_words p xs)
unfolding later_words
fit_later p xs s l h = more (lit< tt) (more (lit< tt) (more (lit< tt) (more (lit< tt) (more (lit< tt) (more (lit< tt) (more {w = 8 * length xs} (omega arith)
    (fit_append (fit_plan p s) h)))))))

pub length_later : (p : Plan) (xs : List Call) → length (later_words p xs) ≡ 14 + 2 * length xs
unfolding later_words plan_words
length_later p xs = omega (arith, length_words xs)

-- ---- the word that makes the sum 0

solved : (p : Plan) (xs : List Call) (r : List ℕ) (s w : ℕ) → s ≡ wrapped_sum (take (file_size (length xs)) (bytes_of (open_words p xs) ++ r)) → w ≡ closing_word s
    → PlanFits p → length xs ≤ 8184 → Fit (call_words xs)
    → with_word (bytes_of (open_words p xs) ++ r) 1 w ≡ file_of p xs ++ r
unfolding open_words file_words
solved p xs r s w e f fits few fit =
    let ws : List ℕ = file_size (length xs) ∷ 0 ∷ later_words p xs in
    let t = total (later_words p xs) in
    let lr = length_later p xs in
    let long : length (bytes_of ws) ≡ file_size (length xs) = length-bytes_of ws ∙ omega arith in
    let all : Fit ws = more {w = file_size (length xs)} (omega arith) (more (lit< tt) (fit_later p xs fits few fit)) in
    let sum : s ≡ total ws % 2 ^ 32 = e ∙ (ap wrapped_sum (take_at (bytes_of ws) r (file_size (length xs)) long) ∙ sum_written ws all) in
    let two : total ws ≡ file_size (length xs) + t = two_total (file_size (length xs)) 0 (later_words p xs) ∙ omega arith in
    let is : w ≡ closing_word (file_size (length xs) + t) = f ∙ solving s (file_size (length xs) + t) (sum ∙ ap (λ (x : ℕ). x % 2 ^ 32) two) in
    second_word (file_size (length xs)) 0 w (later_words p xs) r ∙ ap (λ (x : ℕ). bytes_of (file_size (length xs) ∷ x ∷ later_words p xs) ++ r) is
  where
    solving : (s t : ℕ) → s ≡ t % 2 ^ 32 → (2 ^ 32 - s % 2 ^ 32) % 2 ^ 32 ≡ (2 ^ 32 - t % 2 ^ 32) % 2 ^ 32
    solving s t e = omega arith

-- ---- the whole run

pub run : (p : Plan) (cs ns buf body l₁ l₂ l₃ b₃ last : List ℕ) (s w : ℕ) → Ready p cs ns (length buf) → Fit cs → Fit ns
    → l₁ ≡ bytes_of (front (file_size (length cs)) (8 * length cs)) ++ drop 36 (take 36 buf)
    → body ≡ plan_words p
    → l₂ ≡ bytes_of body ++ drop (4 * length body) (take 28 (drop 36 (put_part 0 36 buf l₁)))
    → l₃ ≡ bytes_of (call_words (paired cs ns)) ++ drop (8 * length cs) (take (length (put_part 36 28 (put_part 0 36 buf l₁) l₂) - 64) (drop 64 (put_part 36 28 (put_part 0 36 buf l₁) l₂)))
    → b₃ ≡ put_part 64 (length (put_part 36 28 (put_part 0 36 buf l₁) l₂) - 64) (put_part 36 28 (put_part 0 36 buf l₁) l₂) l₃
    → s ≡ wrapped_sum (take (file_size (length cs) - 0) b₃) → w ≡ closing_word s
    → last ≡ with_word b₃ 1 w
    → last ≡ file_of p (paired cs ns) ++ drop (file_size (length cs)) buf
run p cs ns buf body l₁ l₂ l₃ b₃ last s w g fc fn e₁ eb e₂ e₃ e₄ es ew el =
    let xs = paired cs ns in
    let n : length cs ≡ length xs = sym (length-paired cs ns g.same) in
    let z : file_size (length cs) - 0 ≡ file_size (length xs) = omega arith in
    let B₁ = put_part 0 36 buf l₁ in
    let B₂ = put_part 36 28 B₁ l₂ in
    let e₁' : l₁ ≡ bytes_of (front (file_size (length xs)) (8 * length xs)) ++ drop 36 (take 36 buf) = e₁ ∙ ap (λ (k : ℕ). bytes_of (front (file_size k) (8 * k)) ++ drop 36 (take 36 buf)) n in
    let e₂' : l₂ ≡ bytes_of (plan_words p) ++ drop 28 (take 28 (drop 36 B₁)) =
    e₂ ∙ (ap (λ (x : List ℕ). bytes_of x ++ drop (4 * length x) (take 28 (drop 36 B₁))) eb
    ∙ ap (λ (k : ℕ). bytes_of (plan_words p) ++ drop (4 * k) (take 28 (drop 36 B₁))) (length_plan p)) in
    let e₃' : l₃ ≡ bytes_of (call_words xs) ++ drop (8 * length xs) (take (length B₂ - 64) (drop 64 B₂)) = e₃ ∙ ap (λ (k : ℕ). bytes_of (call_words xs) ++ drop (8 * k) (take (length B₂ - 64) (drop 64 B₂))) n in
    let b : b₃ ≡ bytes_of (open_words p xs) ++ drop (file_size (length xs)) buf = e₄ ∙ three_parts p xs buf l₁ l₂ l₃ (omega (arith, g.fits)) e₁' e₂' e₃' in
    let es' : s ≡ wrapped_sum (take (file_size (length xs)) (bytes_of (open_words p xs) ++ drop (file_size (length xs)) buf)) =
    es ∙ (ap (λ (k : ℕ). wrapped_sum (take k b₃)) z ∙ ap (λ (x : List ℕ). wrapped_sum (take (file_size (length xs)) x)) b) in
    el ∙ (ap (λ (x : List ℕ). with_word x 1 w) b
    ∙ (solved p xs (drop (file_size (length xs)) buf) s w es' ew g.plan (omega (arith, g.few)) (fit_calls cs ns fc fn)
    ∙ ap (λ (k : ℕ). file_of p xs ++ drop (file_size k) buf) (sym n)))
