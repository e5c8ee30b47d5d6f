-- Exporting: what stands in the buffer after each call, and what an accepted export tells. Assumes nothing.
use mathlib.Core.Path.{◌≡◌, refl, sym, ◌∙◌, ap}
use mathlib.Core.Bool.{Bool, true, false, not}
use mathlib.Core.List.{List, [], ◌∷◌, ◌++◌, append_assoc, append-nil}
use Prim.Native.Nat.{ℕ, ◌+◌, ◌≤◌, ◌<◌}
use native.Mathlib.Numerals.{add-one}
use native.Mathlib.Omega.{arith}
use lib.ListN.{length, get_or, take, drop, length-append, take-append-drop}
use lib.Seq.{take_all, take-suc}
use lib.Dec.{leb, eqb}
use borrow.Author.Tests.{leb-true, ltb-false, eqb-true, eqb-false}
use Rattle.tariff.specs.Tests.{is_accepted}
use Rattle.tariff.proofs.Tests.{first_fails, rest_accepts, not-false}
use Rattle.tariff.proofs.Verdicts.{and_three}
use Rattle.tripfile.specs.Bodies.{Call, call, paired, calls_right}
use Rattle.tripfile.specs.Writing.{counts_right}
use Rattle.tripfile.proofs.Listed.{length-paired, paired_at}
use Rattle.text.specs.Text.{placed}
use Rattle.text.proofs.Placing.{length-placed, placed_none, Put, put_next}
use Rattle.textlines.specs.Line.{line}
use Rattle.textlines.specs.Text.{text_of, export_reasons, export_verdict}
use Rattle.std.specs.Prelude.{Ok}

pub text_append : (xs ys : List Call) → text_of (xs ++ ys) ≡ text_of xs ++ text_of ys
unfolding text_of
text_append [] ys = refl
text_append (x ∷ xs) ys = ap (λ (t : List ℕ). line x ++ t) (text_append xs ys) ∙ sym (append_assoc (line x) (text_of xs) (text_of ys))

text_one : (c : Call) → text_of (c ∷ []) ≡ line c
unfolding text_of
text_one c = append-nil (line c)

pub text_more : (cs ns : List ℕ) (i : ℕ) → length ns ≡ length cs → i < length cs
    → text_of (take (i + 1) (paired cs ns)) ≡ text_of (take i (paired cs ns)) ++ line (call (get_or cs i 0) (get_or ns i 0))
text_more cs ns i h l =
    let xs = paired cs ns in
    let e : take (i + 1) xs ≡ take i xs ++ (call (get_or cs i 0) (get_or ns i 0) ∷ []) =
    ap (λ (k : ℕ). take k xs) (add-one i) ∙ (take-suc xs i (call 0 0) (omega (arith, length-paired cs ns h)) ∙ ap (λ (c : Call). take i xs ++ (c ∷ [])) (paired_at cs ns i h l)) in
    ap text_of e ∙ (text_append (take i xs) _ ∙ ap (λ (t : List ℕ). text_of (take i xs) ++ t) (text_one _))

pub text_long_more : (cs ns : List ℕ) (i : ℕ) → length ns ≡ length cs → i < length cs
    → length (text_of (take (i + 1) (paired cs ns))) ≡ length (text_of (take i (paired cs ns))) + length (line (call (get_or cs i 0) (get_or ns i 0)))
text_long_more cs ns i h l =
    ap length (text_more cs ns i h l) ∙ length-append (text_of (take i (paired cs ns))) (line (call (get_or cs i 0) (get_or ns i 0)))

text_part : (xs : List Call) (i : ℕ) → length (text_of (take i xs)) ≤ length (text_of xs)
text_part xs i =
    let e : text_of (take i xs) ++ text_of (drop i xs) ≡ text_of xs = sym (text_append (take i xs) (drop i xs)) ∙ ap text_of (take-append-drop i xs) in
    omega (arith, length-append (text_of (take i xs)) (text_of (drop i xs)), ap length e)

pub text_all : (cs ns : List ℕ) (i : ℕ) → length ns ≡ length cs → length cs ≤ i → text_of (take i (paired cs ns)) ≡ text_of (paired cs ns)
text_all cs ns i h l = ap text_of (take_all i (paired cs ns) (omega (arith, length-paired cs ns h)))

-- ---- the buffer after the first i calls

pub record Putting (cs ns b₀ b : List ℕ) (at i : ℕ) : Type 0 where
  pub within : i ≤ length cs
  pub put : Put b₀ 0 b at (text_of (take i (paired cs ns)))

pub put_begun : (cs ns b : List ℕ) → Putting cs ns b b 0 0
unfolding text_of
put_begun cs ns b = record { within = omega arith; put = record { buffer = sym (placed_none b 0); end = refl } }

module _ {cs ns b₀ b : List ℕ} {at i : ℕ} (p : Putting cs ns b₀ b at i) (h : length ns ≡ length cs) where
  pub put_many : length (text_of (paired cs ns)) ≤ length b₀ → length b ≡ length b₀
  put_many m =
      ap length p.put.buffer
      ∙ length-placed b₀ 0 (text_of (take i (paired cs ns))) (omega (arith, text_part (paired cs ns) i))

  pub put_room : length (text_of (paired cs ns)) ≤ length b₀ → i < length cs
      → at + length (line (call (get_or cs i 0) (get_or ns i 0))) ≤ length b
  put_room m l =
      let w = line (call (get_or cs i 0) (get_or ns i 0)) in
      let t = ap length (text_more cs ns i h l) ∙ length-append (text_of (take i (paired cs ns))) w in
      omega (arith, text_part (paired cs ns) (i + 1), p.put.end, put_many m)

  pub put_more : length (text_of (paired cs ns)) ≤ length b₀ → i < length cs → (b' : List ℕ) (at' : ℕ)
      → at' ≡ at + length (line (call (get_or cs i 0) (get_or ns i 0))) → b' ≡ placed b at (line (call (get_or cs i 0) (get_or ns i 0)))
      → Putting cs ns b₀ b' at' (i + 1)
  put_more m l b' at' ea eb =
      let s = text_of (take i (paired cs ns)) in
      let w = line (call (get_or cs i 0) (get_or ns i 0)) in
      let next : Put b₀ 0 b' at' (s ++ w) =
      put_next b₀ 0 b at s b' at' w p.put (omega (arith, p.put.end, text_part (paired cs ns) i)) eb ea in
      let t = sym (text_more cs ns i h l) in
      record {
        within = omega arith;
        put = record {
          buffer = next.buffer ∙ ap (placed b₀ 0) t;
          end = next.end ∙ ap (λ (x : List ℕ). 0 + length x) t;
        };
      }

  -- one call more, the next of the lists
  pub put_turn : length (text_of (paired cs ns)) ≤ length b₀ → i < length cs → (code number : ℕ) → code ≡ get_or cs i 0 → number ≡ get_or ns i 0
      → (b' : List ℕ) (at' : ℕ) → at' ≡ at + length (line (call code number)) → b' ≡ placed b at (line (call code number))
      → Putting cs ns b₀ b' at' (i + 1)
  put_turn m l code number ec en b' at' ea eb =
      let e : line (call code number) ≡ line (call (get_or cs i 0) (get_or ns i 0)) = ap (λ (x : ℕ). line (call x number)) ec ∙ ap (λ (x : ℕ). line (call (get_or cs i 0) x)) en in
      put_more m l b' at' (ea ∙ ap (λ (x : List ℕ). at + length x) e) (eb ∙ ap (placed b at) e)

  pub put_size : length cs ≤ i → at ≡ length (text_of (paired cs ns))
  put_size l = omega (arith, p.put.end, ap length (text_all cs ns i h l))

  pub put_all : length cs ≤ i → b ≡ placed b₀ 0 (text_of (paired cs ns))
  put_all l = p.put.buffer ∙ ap (placed b₀ 0) (text_all cs ns i h l)

-- ---- an accepted export

pub record Exports (cs ns : List ℕ) (room : ℕ) : Type 0 where
  pub some : length cs ≡ 0 → ⊥
  pub few : length cs ≤ 8184
  pub same : length ns ≡ length cs
  pub right : calls_right (paired cs ns) ≡ true
  pub short : length (text_of (paired cs ns)) ≤ 65536
  pub fits : length (text_of (paired cs ns)) ≤ room

pub exports : (cs ns : List ℕ) (room : ℕ) → export_verdict cs ns room ≡ (Ok tt) → Exports cs ns room
unfolding export_verdict export_reasons
exports cs ns room e =
    let h = ap is_accepted e in
    let h₁₅ = rest_accepts _ _ h in
    let h₂₁ = rest_accepts _ _ h₁₅ in
    let h₁₆ = rest_accepts _ _ h₂₁ in
    let n = and_three (not (eqb (length cs) 0)) (leb (length cs) 8184) (eqb (length ns) (length cs)) (not-false (counts_right cs ns) (first_fails _ _ h)) in
    record {
      some = eqb-false (length cs) 0 (not_yes (eqb (length cs) 0) n.0);
      few = leb-true _ _ n.1;
      same = eqb-true _ _ n.2;
      right = not-false (calls_right (paired cs ns)) (first_fails _ _ h₁₅);
      short = ltb-false 65536 (length (text_of (paired cs ns))) (first_fails _ _ h₂₁);
      fits = ltb-false room (length (text_of (paired cs ns))) (first_fails _ _ h₁₆);
    }
  where
    not_yes : (b : Bool) → not b ≡ true → b ≡ false
    not_yes true e = sym e
    not_yes false e = refl
