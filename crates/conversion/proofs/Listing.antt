-- Codes and numbers in lent lists. Assumes nothing.
use mathlib.Core.Path.{◌≡◌, refl, sym, ◌∙◌, ap}
use mathlib.Core.List.{List, [], ◌∷◌}
use Prim.Native.Nat.{ℕ, zero, suc, ◌+◌, ◌*◌, ◌/◌, ◌≤◌, ◌<◌}
use native.Mathlib.Omega.{arith}
use lib.ListN.{length, get_or, take, drop, set, length-set}
use lib.Seq.{take_at, take_all}
use Rattle.words.specs.Words.{word}
use Rattle.text.specs.Text.{placed}
use Rattle.text.proofs.Placing.{placed_none}
use Rattle.tripfile.specs.Bodies.{Call, call, calls_in, codes_of, numbers_of}
use Rattle.tripfile.proofs.Listed.{call_in, length_calls, length_codes, length-numbers}
use Rattle.textlines.proofs.Filling.{fill_step}

-- what stands at the start of a list after it was put there
pub put_back : (xs old : List ℕ) (n : ℕ) → n ≡ length xs → take n (placed old 0 xs) ≡ xs
unfolding placed
put_back xs old n e = take_at xs (drop (0 + length xs) old) n (sym e)

-- ---- the calls of a section, one after the other

codes_at : (xs : List Call) (i : ℕ) → get_or (codes_of xs) i 0 ≡ (get_or xs i (call 0 0)).code
unfolding codes_of
codes_at [] i = refl
codes_at (x ∷ xs) zero = refl
codes_at (x ∷ xs) (suc i) = codes_at xs i

numbers_at : (xs : List Call) (i : ℕ) → get_or (numbers_of xs) i 0 ≡ (get_or xs i (call 0 0)).number
unfolding numbers_of
numbers_at [] i = refl
numbers_at (x ∷ xs) zero = refl
numbers_at (x ∷ xs) (suc i) = numbers_at xs i

pub count_codes : (s : List ℕ) → length (codes_of (calls_in s)) ≡ length s / 8
count_codes s = length_codes (calls_in s) ∙ length_calls s

pub count_numbers : (s : List ℕ) → length (numbers_of (calls_in s)) ≡ length s / 8
count_numbers s = length-numbers (calls_in s) ∙ length_calls s

pub record Split (s cs₀ ns₀ cs ns : List ℕ) (i : ℕ) : Type 0 where
  pub within : i ≤ length s / 8
  pub many_codes : length cs ≡ length cs₀
  pub many_numbers : length ns ≡ length ns₀
  pub codes : cs ≡ placed cs₀ 0 (take i (codes_of (calls_in s)))
  pub numbers : ns ≡ placed ns₀ 0 (take i (numbers_of (calls_in s)))

pub split_none : (s cs ns : List ℕ) → Split s cs ns cs ns 0
split_none s cs ns = record {
  within = omega arith;
  many_codes = refl;
  many_numbers = refl;
  codes = sym (placed_none cs 0);
  numbers = sym (placed_none ns 0);
}

pub split_more : {s cs₀ ns₀ cs ns : List ℕ} {i : ℕ} → Split s cs₀ ns₀ cs ns i → length s / 8 ≤ length cs₀ → length s / 8 ≤ length ns₀
    → i < length s / 8 → (c n : ℕ) → c ≡ word s (2 * i) → n ≡ word s (2 * i + 1)
    → Split s cs₀ ns₀ (set cs i c) (set ns i n) (i + 1)
split_more {s = s} {cs₀ = cs₀} {ns₀ = ns₀} {cs = cs} {ns = ns} {i = i} p hc hn l c n ec en =
    let at = call_in s i l in
    let C = codes_of (calls_in s) in
    let N = numbers_of (calls_in s) in
    record {
      within = omega arith;
      many_codes = length-set cs i c ∙ p.many_codes;
      many_numbers = length-set ns i n ∙ p.many_numbers;
      codes =
          fill_step C cs cs₀ i c p.codes (omega (arith, count_codes s)) (omega (arith, count_codes s))
          (codes_at (calls_in s) i ∙ (ap (λ (x : Call). x.code) at ∙ sym ec));
      numbers =
          fill_step N ns ns₀ i n p.numbers (omega (arith, count_numbers s)) (omega (arith, count_numbers s))
          (numbers_at (calls_in s) i ∙ (ap (λ (x : Call). x.number) at ∙ sym en));
    }

pub split_all : {s cs₀ ns₀ cs ns : List ℕ} {i : ℕ} → Split s cs₀ ns₀ cs ns i → length s / 8 ≤ i
    → (cs ≡ placed cs₀ 0 (codes_of (calls_in s))) × (ns ≡ placed ns₀ 0 (numbers_of (calls_in s)))
split_all {s = s} {cs₀ = cs₀} {ns₀ = ns₀} {i = i} p l = (
  p.codes ∙ ap (placed cs₀ 0) (take_all i (codes_of (calls_in s)) (omega (arith, count_codes s))),
  p.numbers ∙ ap (placed ns₀ 0) (take_all i (numbers_of (calls_in s)) (omega (arith, count_numbers s))),
)
