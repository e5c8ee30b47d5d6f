-- The units of the logged days, one day at a time, as a day joins, and places that hold no day. Assumes nothing.
use Prim.Native.Nat.{ℕ, zero, suc, ◌+◌, ◌≤◌, ◌<◌, min}
use mathlib.Core.Path.{◌≡◌, refl}
use mathlib.Core.Bool.{Bool, true, false}
use mathlib.Core.List.{List, [], ◌∷◌}
use native.Mathlib.Omega.{arith}
use native.Mathlib.Numerals.{add-one}
use lib.Dec.{ltb, eqb, lit≤}
use borrow.Author.Tests.{ltb-true, ltb-false, eqb-true, eqb-false}
use lib.ListN.{take, drop, get_or, replicate}
use lib.Seq.{get_or-take}
use Rattle.tariff.specs.Units.{zero_units, ◌⊕◌, AtMost}
use Rattle.tariff.proofs.Tests.{and_left, and_right}
use Rattle.presence.specs.declared.Day.{Day}
use Rattle.presence.specs.Day.{empty_day, day_units, joined}
use Rattle.presence.specs.Log.{units_over, blank, all_blank}

pub over_next : (n : ℕ) (ds : List Day) → units_over (n + 1) ds ≡ day_units (get_or ds n empty_day) ⊕ units_over n ds
unfolding units_over
over_next n ds = rw (add-one n) refl

pub over_none : (n : ℕ) (ds : List Day) → n ≡ 0 → units_over n ds ≡ zero_units
unfolding units_over
over_none n ds e = rw e refl

over_suc : (n : ℕ) (ds : List Day) → AtMost (units_over n ds) (units_over (suc n) ds)
unfolding units_over
over_suc n ds = omega arith

over_cons : (n : ℕ) (d : Day) (ds : List Day) → AtMost (units_over (suc n) (d ∷ ds)) (day_units d ⊕ units_over n ds)
unfolding units_over
over_cons zero d ds = omega arith
over_cons (suc n) d ds = omega (arith, over_cons n d ds)

over_take : (n m : ℕ) (ds : List Day) → n ≤ m → units_over n (take m ds) ≡ units_over n ds
unfolding units_over
over_take zero m ds h = refl
over_take (suc n) m ds h = rw (get_or-take m ds n empty_day h, over_take n m ds (omega arith))

-- a day that joins the log brings its own units at most
pub over_joined : (n : ℕ) (d : Day) (ds : List Day) → n ≤ 123 → AtMost (units_over (min 123 (suc n)) (joined d ds)) (day_units d ⊕ units_over n ds)
unfolding joined
over_joined n d ds h = go (ltb n 123) refl
  where
    go : (b : Bool) → ltb n 123 ≡ b → AtMost (units_over (min 123 (suc n)) (take 123 (d ∷ ds))) (day_units d ⊕ units_over n ds)
    go true e =
        let l = ltb-true n 123 e in
        let m : min 123 (suc n) ≡ suc n = omega arith in
        rw (m, over_take (suc n) 123 (d ∷ ds) (omega arith)) (over_cons n d ds)
    go false e =
        let l = ltb-false n 123 e in
        let k : n ≡ 123 = omega arith in
        let m : min 123 (suc n) ≡ 123 = omega arith in
        rw (m, k, over_take 123 123 (d ∷ ds) (lit≤ tt)) (omega (arith, over_cons 122 d ds, over_suc 122 ds))

-- a day among the first n has no more units than all of them; fewer days, no more units
pub over_at : (n i : ℕ) (ds : List Day) → i < n → AtMost (day_units (get_or ds i empty_day)) (units_over n ds)
unfolding units_over
over_at zero i ds h = absurd (omega arith)
over_at (suc n) i ds h = go (λ k. over_at n i ds k) (eqb i n) refl
  where
    go : (i < n → AtMost (day_units (get_or ds i empty_day)) (units_over n ds)) → (b : Bool) → eqb i n ≡ b
        → AtMost (day_units (get_or ds i empty_day)) (day_units (get_or ds n empty_day) ⊕ units_over n ds)
    go f true e = rw (eqb-true i n e) (omega arith)
    go f false e =
        let k : i < n = omega (arith, eqb-false i n e) in
        omega (arith, f k)

pub over_fewer : (w n : ℕ) (ds : List Day) → w ≤ n → AtMost (units_over w ds) (units_over n ds)
over_fewer w zero ds h = let e : w ≡ 0 = omega arith in rw e (omega arith)
over_fewer w (suc n) ds h = go (λ k. over_fewer w n ds k) (eqb w (suc n)) refl
  where
    go : (w ≤ n → AtMost (units_over w ds) (units_over n ds)) → (b : Bool) → eqb w (suc n) ≡ b → AtMost (units_over w ds) (units_over (suc n) ds)
    go f true e = rw (eqb-true w (suc n) e) (omega arith)
    go f false e =
        let k : w ≤ n = omega (arith, eqb-false w (suc n) e) in
        omega (arith, f k, over_suc n ds)

blank-take : (m : ℕ) (ds : List Day) → all_blank ds ≡ true → all_blank (take m ds) ≡ true
unfolding all_blank
blank-take zero ds e = refl
blank-take (suc m) [] e = refl
blank-take (suc m) (d ∷ ds) e = rw (and_left (blank d) (all_blank ds) e) (blank-take m ds (and_right (blank d) (all_blank ds) e))

blank_within : (n m : ℕ) (ds : List Day) → all_blank (drop n ds) ≡ true → all_blank (drop n (take m ds)) ≡ true
blank_within zero m ds e = blank-take m ds e
blank_within (suc n) zero ds e = unfold all_blank in refl
blank_within (suc n) (suc m) [] e = e
blank_within (suc n) (suc m) (d ∷ ds) e = blank_within n m ds e

blank_past : (n : ℕ) (ds : List Day) → all_blank (drop n (take n ds)) ≡ true
unfolding all_blank
blank_past zero ds = refl
blank_past (suc n) [] = refl
blank_past (suc n) (d ∷ ds) = blank_past n ds

-- places past the logged days stay blank as a day joins
pub blank_joined : (n : ℕ) (d : Day) (ds : List Day) → n ≤ 123 → all_blank (drop n ds) ≡ true → all_blank (drop (min 123 (suc n)) (joined d ds)) ≡ true
unfolding joined
blank_joined n d ds h f = go (ltb n 123) refl
  where
    go : (b : Bool) → ltb n 123 ≡ b → all_blank (drop (min 123 (suc n)) (take 123 (d ∷ ds))) ≡ true
    go true e =
        let l = ltb-true n 123 e in
        let m : min 123 (suc n) ≡ suc n = omega arith in
        rw m (blank_within n 122 ds f)
    go false e =
        let l = ltb-false n 123 e in
        let m : min 123 (suc n) ≡ 123 = omega arith in
        rw m (blank_past 122 ds)

-- an empty log has no units, and all its places are blank
empty_at : (n i : ℕ) → get_or (replicate n empty_day) i empty_day ≡ empty_day
empty_at zero i = refl
empty_at (suc n) zero = refl
empty_at (suc n) (suc i) = empty_at n i

pub over_empty : (w n : ℕ) → units_over w (replicate n empty_day) ≡ zero_units
unfolding units_over
over_empty zero n = refl
over_empty (suc w) n = rw (empty_at n w, over_empty w n)

pub blank_empty : (n : ℕ) → all_blank (replicate n empty_day) ≡ true
unfolding all_blank
blank_empty zero = refl
blank_empty (suc n) = blank_empty n
