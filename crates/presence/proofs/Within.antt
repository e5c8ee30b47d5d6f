-- A log is sound by the bits of its numbers: those past the logged days are 0, the marks below 8, the units below 2^40,
-- and then the units add up. Assumes nothing.
use Prim.Native.Nat.{ℕ, zero, suc, ◌+◌, ◌-◌, ◌*◌, ◌/◌, ◌%◌, ◌≤◌, ◌<◌}
use mathlib.Core.Path.{◌≡◌, refl, sym, ◌∙◌, ap}
use mathlib.Core.Bool.{Bool, true, false, not, ◌&&◌}
use mathlib.Core.List.{List, [], ◌∷◌}
use native.Mathlib.Omega.{arith}
use lib.Bits.{bit_or, or_lt}
use lib.Dec.{eqb, ltb}
use borrow.Author.Tests.{eqb-true, eqb-false, ltb-true, ltb-false}
use lib.ListN.{get_or, drop, get_or-replicate}
use lib.Seq.{get_or-drop}
use Rattle.tariff.specs.declared.Units.{Units}
use Rattle.tariff.specs.Tests.{all}
use Rattle.tariff.specs.Units.{each, zero_units, ◌⊕◌, fits, no_units, AtMost}
use Rattle.tariff.proofs.Tests.{and_left, and_right, and-true, not-true}
use Rattle.tariff.proofs.Sums.{fits_tells}
use Rattle.presence.specs.declared.Day.{Day}
use Rattle.presence.specs.Day.{empty_day, day_units}
use Rattle.presence.specs.Log.{numbers_of, day_from, days_first, days_of, units_over, blank, all_blank}
use Rattle.presence.specs.Log.{marks_proper, lifetime_most, log_within}
use Rattle.presence.specs.Held.{Roomy, Bounded, UnitsFit, bits_of, place_from, marks_kept, units_bits}
use Rattle.presence.specs.Held.{bits_with, bits_over}
use Rattle.presence.proofs.Numbers.{days_past, number_at, marks_each, marks_all}
use Rattle.presence.proofs.Bits.{or_above, bits_above, bits_below}

-- days of zeros are blank, and blank days have no numbers but 0
zeros_blank : (m : ℕ) (xs : List ℕ) → ((j : ℕ) → j < 13 * m → get_or xs j 0 ≡ 0) → all_blank (days_first m xs) ≡ true
unfolding all_blank days_first day_from
zeros_blank zero xs h = refl
zeros_blank (suc m) xs h =
    rw
    (h 0 (omega arith), h 1 (omega arith), h 2 (omega arith), h 3 (omega arith), h 4 (omega arith), h 5 (omega arith), h 6 (omega arith), h 7 (omega arith), h 8 (omega arith), h 9 (omega arith), h 10 (omega arith), h 11 (omega arith), h 12 (omega arith))
    (zeros_blank m (drop 13 xs) (λ j l. get_or-drop 13 xs j 0 ∙ h (13 + j) (omega arith)))

blank_at : (ds : List Day) (i : ℕ) → all_blank ds ≡ true → blank (get_or ds i empty_day) ≡ true
unfolding all_blank
blank_at [] i e = refl
blank_at (d ∷ ds) zero e = and_left (blank d) (all_blank ds) e
blank_at (d ∷ ds) (suc i) e = blank_at ds i (and_right (blank d) (all_blank ds) e)

none_is_zero : (u : Units) → no_units u ≡ true → u ≡ zero_units
none_is_zero u e =
    let a = eqb u.kb 0 in
    let b = eqb u.outgoing 0 in
    let c = eqb u.incoming 0 in
    let d = eqb u.sms 0 in
    let e3 = and_left (a && b && c) d e in
    let e2 = and_left (a && b) c e3 in
    λ i. record {
      kb = eqb-true u.kb 0 (and_left a b e2) i;
      outgoing = eqb-true u.outgoing 0 (and_right a b e2) i;
      incoming = eqb-true u.incoming 0 (and_right (a && b) c e3) i;
      sms = eqb-true u.sms 0 (and_right (a && b && c) d e) i;
    }

blank_is_empty : (d : Day) → blank d ≡ true → d ≡ empty_day
blank_is_empty d e =
    let h = not d.home in
    let z = not d.zone in
    let o = not d.elsewhere in
    let a = no_units d.athome in
    let b = no_units d.inzone in
    let c = no_units d.outside in
    let e5 = and_left (h && z && o && a && b) c e in
    let e4 = and_left (h && z && o && a) b e5 in
    let e3 = and_left (h && z && o) a e4 in
    let e2 = and_left (h && z) o e3 in
    λ i. record {
      home = not-true d.home (and_left h z e2) i;
      zone = not-true d.zone (and_right h z e2) i;
      elsewhere = not-true d.elsewhere (and_right (h && z) o e3) i;
      athome = none_is_zero d.athome (and_right (h && z && o) a e4) i;
      inzone = none_is_zero d.inzone (and_right (h && z && o && a) b e5) i;
      outside = none_is_zero d.outside (and_right (h && z && o && a && b) c e) i;
    }

blank_number : (d : Day) (r : ℕ) → r < 13 → blank d ≡ true → get_or (numbers_of d) r 0 ≡ 0
unfolding numbers_of
blank_number d r l e = ap (λ (t : Day). get_or (numbers_of t) r 0) (blank_is_empty d e) ∙ get_or-replicate 13 r 0 0 l

-- units below 2^40 in each kind; joined bits are, exactly if all that is joined is
abbrev Narrow : Units → Type 0
Narrow u = AtMost u (each 1099511627775 1099511627775 1099511627775 1099511627775)

join_low : (a h z e : ℕ) → a < 1099511627776 → h < 1099511627776 → z < 1099511627776 → e < 1099511627776
    → bit_or (bit_or (bit_or a h) z) e < 1099511627776
join_low a h z e p q r s = or_lt 40 (bit_or (bit_or a h) z) e (or_lt 40 (bit_or a h) z (or_lt 40 a h p q) r) s

join_tells : (a h z e : ℕ) → bit_or (bit_or (bit_or a h) z) e < 1099511627776
    → (a < 1099511627776) × (h < 1099511627776) × (z < 1099511627776) × (e < 1099511627776)
join_tells a h z e l =
    let x = or_above (bit_or (bit_or a h) z) e in
    let y = or_above (bit_or a h) z in
    let w = or_above a h in
    (omega (arith, x, y, w), omega (arith, x, y, w), omega (arith, x, y, w), omega (arith, x, y, w))

-- of units of a day within the lifetime units, and of those of days whose sum is
with_low : (u : Units) (d : Day) → Narrow u → AtMost (day_units d) lifetime_most → Narrow (bits_with u d)
with_low u d n h =
    let kb = join_low d.athome.kb d.inzone.kb d.outside.kb u.kb (omega arith) (omega arith) (omega arith) (omega arith) in
    let out = join_low d.athome.outgoing d.inzone.outgoing d.outside.outgoing u.outgoing (omega arith) (omega arith) (omega arith) (omega arith) in
    let inc = join_low d.athome.incoming d.inzone.incoming d.outside.incoming u.incoming (omega arith) (omega arith) (omega arith) (omega arith) in
    let sms = join_low d.athome.sms d.inzone.sms d.outside.sms u.sms (omega arith) (omega arith) (omega arith) (omega arith) in
    omega (arith, kb, out, inc, sms)

over_low : (n : ℕ) (ds : List Day) → AtMost (units_over n ds) lifetime_most → Narrow (bits_over n ds)
unfolding bits_over units_over
over_low zero ds h = omega arith
over_low (suc n) ds h = with_low (bits_over n ds) (get_or ds n empty_day) (over_low n ds (omega arith)) (omega arith)

-- and back
with_tells : (u : Units) (d : Day) → Narrow (bits_with u d) → Narrow u × Bounded (day_units d)
with_tells u d h =
    let kb = join_tells d.athome.kb d.inzone.kb d.outside.kb u.kb (omega arith) in
    let out = join_tells d.athome.outgoing d.inzone.outgoing d.outside.outgoing u.outgoing (omega arith) in
    let inc = join_tells d.athome.incoming d.inzone.incoming d.outside.incoming u.incoming (omega arith) in
    let sms = join_tells d.athome.sms d.inzone.sms d.outside.sms u.sms (omega arith) in
    (omega (arith, kb, out, inc, sms), omega (arith, kb, out, inc, sms))

over_tells : (n i : ℕ) (ds : List Day) → Narrow (bits_over n ds) → i < n → Bounded (day_units (get_or ds i empty_day))
unfolding bits_over
over_tells zero i ds h l = absurd (omega arith)
over_tells (suc n) i ds h l = go (λ k. over_tells n i ds t.0 k) (eqb i n) refl
  where
    t : Narrow (bits_over n ds) × Bounded (day_units (get_or ds n empty_day))
    t = with_tells (bits_over n ds) (get_or ds n empty_day) h

    go : (i < n → Bounded (day_units (get_or ds i empty_day))) → (b : Bool) → eqb i n ≡ b → Bounded (day_units (get_or ds i empty_day))
    go f true e = rw (eqb-true i n e) t.1
    go f false e = f (omega (arith, eqb-false i n e))

-- the same of all kinds at once
narrow_bits : (u : Units) → Narrow u → units_bits u < 1099511627776
narrow_bits u h = join_low u.kb u.outgoing u.incoming u.sms (omega arith) (omega arith) (omega arith) (omega arith)

bits_narrow : (u : Units) → units_bits u < 1099511627776 → Narrow u
bits_narrow u h = omega (arith, join_tells u.kb u.outgoing u.incoming u.sms h)

-- so the bits of the first n days and of one more day tell that all of these have small numbers
pub days_bounded : (n : ℕ) (xs : List ℕ) (d : Day) → units_bits (bits_with (bits_over n (days_of xs)) d) < 1099511627776
    → UnitsFit n xs × Bounded (day_units d)
days_bounded n xs d h =
    let t = with_tells (bits_over n (days_of xs)) d (bits_narrow (bits_with (bits_over n (days_of xs)) d) h) in
    ((λ i l. over_tells n i (days_of xs) t.0 l), t.1)

falsely : (t : Bool) → (t ≡ true → ⊥) → t ≡ false
falsely true h = absurd (h refl)
falsely false h = refl

-- what a sound log shows: its tests, each number past the logged days, each of the marks, bits below 2^40
module _ (xs : List ℕ) (today : Day) (n : ℕ) (v : Units) (within : log_within xs today n v ≡ true) where
  abbrev sums : Bool
  sums = fits (day_units today ⊕ units_over n (days_of xs)) v

  tests : (sums ≡ true) × (all_blank (drop n (days_of xs)) ≡ true) × (marks_proper 123 xs ≡ true)
  unfolding log_within all
  tests =
      let b = all_blank (drop n (days_of xs)) in
      let e = and_left (sums && b) (marks_proper 123 xs) within in
      (and_left sums b e, and_right sums b e, and_right (sums && b) (marks_proper 123 xs) within)

  marks_low : (i : ℕ) → i < 123 → marks_kept xs i ≤ 7
  marks_low i l = marks_each 123 i xs tests.2 l

  number_is : (j : ℕ) → j < 1599 → get_or xs j 0 ≡ get_or (numbers_of (get_or (days_of xs) (j / 13) empty_day)) (j % 13) 0
  number_is j l =
      let e : 13 * (j / 13) + j % 13 ≡ j = omega arith in
      let k : j / 13 < 123 = omega arith in
      ap (λ (i : ℕ). get_or xs i 0) (sym e) ∙ number_at (j / 13) (j % 13) xs k (omega arith) (marks_low (j / 13) k)

  rest_none : (j : ℕ) → 13 * n ≤ j → j < 1599 → get_or xs j 0 ≡ 0
  rest_none j h l =
      let k : n + (j / 13 - n) ≡ j / 13 = omega arith in
      let d : get_or (drop n (days_of xs)) (j / 13 - n) empty_day ≡ get_or (days_of xs) (j / 13) empty_day =
      get_or-drop n (days_of xs) (j / 13 - n) empty_day ∙ ap (λ (i : ℕ). get_or (days_of xs) i empty_day) k in
      number_is j l
      ∙ blank_number _ (j % 13) (omega arith) (rw (← d) (blank_at (drop n (days_of xs)) (j / 13 - n) tests.1))

  bits_low : AtMost v lifetime_most → units_bits (bits_with (bits_over n (days_of xs)) today) < 1099511627776
  bits_low most =
      let u = fits_tells (day_units today ⊕ units_over n (days_of xs)) v tests.0 in
      narrow_bits
      (bits_with (bits_over n (days_of xs)) today)
      (with_low (bits_over n (days_of xs)) today (over_low n (days_of xs) (omega (arith, u, most))) (omega (arith, u, most)))

module _ (xs : List ℕ) (today : Day) (n : ℕ) (v : Units) (few : n ≤ 123) where
  -- so a log that does not show one of them is not sound
  pub rest_refused : (bits_of (place_from (13 * n) xs) (1599 - 13 * n) ≡ 0 → ⊥) → log_within xs today n v ≡ false
  rest_refused h = falsely (log_within xs today n v) (λ w. h (none w))
    where
      none : log_within xs today n v ≡ true → bits_of (place_from (13 * n) xs) (1599 - 13 * n) ≡ 0
      none w =
          let l = bits_below 0 (place_from (13 * n) xs) (1599 - 13 * n)
          (λ i k. omega (arith, rest_none xs today n v w (13 * n + i) (omega arith) (omega arith))) in
          omega (arith, l)

  pub marks_refused : 7 < bits_of (marks_kept xs) n → log_within xs today n v ≡ false
  marks_refused h = falsely (log_within xs today n v) (λ w. absurd (omega (arith, low w)))
    where
      low : log_within xs today n v ≡ true → bits_of (marks_kept xs) n < 8
      low w = bits_below 3 (marks_kept xs) n (λ i k. omega (arith, marks_low xs today n v w i (omega arith)))

  pub units_refused : AtMost v lifetime_most → 1099511627776 ≤ units_bits (bits_with (bits_over n (days_of xs)) today) → log_within xs today n v ≡ false
  units_refused most h = falsely (log_within xs today n v) (λ w. absurd (omega (arith, bits_low xs today n v w most)))

  -- and one that shows them is sound if the units are within the lifetime units
  pub within_is : bits_of (place_from (13 * n) xs) (1599 - 13 * n) ≡ 0 → bits_of (marks_kept xs) n ≤ 7
      → log_within xs today n v ≡ fits (day_units today ⊕ units_over n (days_of xs)) v
  unfolding log_within all days_of
  within_is rest marks = rw (blanks, proper) (and-true _ ∙ and-true _)
    where
      zero_at : (j : ℕ) → 13 * n ≤ j → j < 1599 → get_or xs j 0 ≡ 0
      zero_at j h l =
          let e : 13 * n + (j - 13 * n) ≡ j = omega arith in
          let b : get_or xs (13 * n + (j - 13 * n)) 0 ≤ 0 =
          rw rest at (bits_above (place_from (13 * n) xs) (1599 - 13 * n) (j - 13 * n) (omega arith)) in
          ap (λ (k : ℕ). get_or xs k 0) (sym e) ∙ omega (arith, b)

      blanks : all_blank (drop n (days_of xs)) ≡ true
      blanks =
          ap all_blank (days_past n 123 xs few)
          ∙ zeros_blank (123 - n) (drop (13 * n) xs) (λ j l. get_or-drop (13 * n) xs j 0 ∙ zero_at (13 * n + j) (omega arith) (omega arith))

      mark_at : (i : ℕ) → i < 123 → (b : Bool) → ltb i n ≡ b → get_or xs (13 * i) 0 ≤ 7
      mark_at i l true e = omega (arith, bits_above (marks_kept xs) n i (ltb-true i n e))
      mark_at i l false e = omega (arith, ltb-false i n e, zero_at (13 * i) (omega (arith, ltb-false i n e)) (omega arith))

      proper : marks_proper 123 xs ≡ true
      proper = marks_all 123 xs (λ i l. mark_at i l (ltb i n) refl)

-- numbers below 2^40 make sums with room for a day more
over_bounded : (i n : ℕ) (xs : List ℕ) → n ≤ 123 → i ≤ n → UnitsFit n xs
    → AtMost (units_over i (days_of xs)) (each (3298534883328 * i) (3298534883328 * i) (3298534883328 * i) (3298534883328 * i))
unfolding units_over
over_bounded zero n xs few l h = omega arith
over_bounded (suc i) n xs few l h = omega (arith, over_bounded i n xs few (omega arith) h, h i l)

pub over_room : (i n : ℕ) (xs : List ℕ) → n ≤ 123 → i ≤ n → UnitsFit n xs → Roomy (units_over i (days_of xs))
over_room i n xs few l h = omega (arith, over_bounded i n xs few l h)
