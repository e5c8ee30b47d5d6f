-- The joined bits of numbers: no number is above them, and they are below a power of 2 where each number is. Assumes
-- nothing.
use Prim.Native.Nat.{ℕ, zero, suc, ◌+◌, ◌^◌, ◌≤◌, ◌<◌}
use mathlib.Core.Path.{◌≡◌, refl}
use mathlib.Core.Bool.{Bool, true, false}
use mathlib.Core.List.{List}
use native.Mathlib.Omega.{arith}
use native.Mathlib.Numerals.{add-one}
use lib.Bits.{bit_or, or_lt, or_add_and, and_le_l, and_le_r}
use lib.Dec.{eqb}
use lib.Pow.{pow_pos}
use borrow.Author.Tests.{eqb-true, eqb-false}
use lib.ListN.{get_or, take, drop, length, length-drop}
use lib.Seq.{get_or-drop}
use Rattle.std.specs.List.{fold}
use Rattle.std.proofs.lemmas.List.Sums.{fold_more}
use Rattle.tariff.specs.Units.{zero_units}
use Rattle.presence.specs.declared.Day.{Day}
use Rattle.presence.specs.Day.{empty_day}
use Rattle.presence.specs.Held.{bits_of, place_from, bits_with, bits_over}

pub bits_none : (f : ℕ → ℕ) (n : ℕ) → n ≡ 0 → bits_of f n ≡ 0
unfolding bits_of
bits_none f n e = rw e refl

pub bits_next : (f : ℕ → ℕ) (n : ℕ) → bits_of f (n + 1) ≡ bit_or (bits_of f n) (f n)
unfolding bits_of
bits_next f n = rw (add-one n) refl

-- the bits joined over a part of a list are those of its numbers
pub bits_folded : (from n : ℕ) (xs : List ℕ) → from + n ≤ length xs → fold bit_or 0 (take n (drop from xs)) ≡ bits_of (place_from from xs) n
unfolding bits_of
bits_folded from zero xs h = refl
bits_folded from (suc n) xs h =
    let more = fold_more bit_or 0 (drop from xs) n 0 (omega (arith, length-drop from xs)) in
    rw (add-one n, bits_folded from n xs (omega arith), get_or-drop from xs n 0) at more

pub joined_none : (n : ℕ) (ds : List Day) → n ≡ 0 → bits_over n ds ≡ zero_units
unfolding bits_over
joined_none n ds e = rw e refl

pub joined_next : (n : ℕ) (ds : List Day) → bits_over (n + 1) ds ≡ bits_with (bits_over n ds) (get_or ds n empty_day)
unfolding bits_over
joined_next n ds = rw (add-one n) refl

pub or_above : (a b : ℕ) → (a ≤ bit_or a b) × (b ≤ bit_or a b)
or_above a b = let e = or_add_and a b in
    (omega (arith, e, and_le_r a b), omega (arith, e, and_le_l a b))

pub bits_above : (f : ℕ → ℕ) (n i : ℕ) → i < n → f i ≤ bits_of f n
unfolding bits_of
bits_above f zero i h = absurd (omega arith)
bits_above f (suc n) i h = go (λ k. bits_above f n i k) (eqb i n) refl
  where
    go : (i < n → f i ≤ bits_of f n) → (b : Bool) → eqb i n ≡ b → f i ≤ bit_or (bits_of f n) (f n)
    go g true e = rw (eqb-true i n e) (or_above (bits_of f n) (f n)).1
    go g false e = let k : i < n = omega (arith, eqb-false i n e) in
        omega (arith, g k, (or_above (bits_of f n) (f n)).0)

pub bits_below : (k : ℕ) (f : ℕ → ℕ) (n : ℕ) → ((i : ℕ) → i < n → f i < 2 ^ k) → bits_of f n < 2 ^ k
unfolding bits_of
bits_below k f zero h = pow_pos k
bits_below k f (suc n) h = or_lt k (bits_of f n) (f n) (bits_below k f n (λ i l. h i (omega arith))) (h n (omega arith))
