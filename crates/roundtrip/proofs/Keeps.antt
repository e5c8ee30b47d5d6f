-- A file of any sections that was read: writing its plan and calls is accepted, and gives a file that reads alike. Assumes nothing.
use mathlib.Core.Path.{◌≡◌, refl, sym, ◌∙◌, ap, subst}
use mathlib.Core.Bool.{Bool, true, false}
use mathlib.Core.List.{List, [], ◌∷◌, ◌++◌}
use Prim.Native.Nat.{ℕ, zero, suc, ◌+◌, ◌*◌, ◌/◌, ◌<◌}
use native.Mathlib.Omega.{arith}
use lib.Dec.{ltb, lit<}
use lib.ListN.{length, get_or, take, drop, length-take, get_or-eq_default}
use borrow.Author.Tests.{ltb-true, ltb-false}
use Rattle.words.specs.Words.{Words, Bytes}
use Rattle.words.proofs.Read.{Fit, none, more, fit_at, fit_append, word_fits, part_at}
use Rattle.sections.specs.Table.{section_count, start_at, length_at}
use Rattle.sections.specs.Find.{entry_to, part_of}
use Rattle.sections.proofs.Finding.{found, section_is}
use Rattle.tariff.specs.declared.Plan.{Plan}
use Rattle.tripfile.specs.Bodies.{Call, call_at, first_calls, calls_in, codes_of, numbers_of, calls_right, paired}
use Rattle.tripfile.specs.Reading.{trip, read_of, calls_of}
use Rattle.tripfile.proofs.Listed.{length_codes, length-numbers, paired_again}
use Rattle.tripfile.proofs.Accepted.{reads}
use Rattle.tripfile.proofs.Held.{answers, holds}
use Rattle.std.specs.Prelude.{Ok}
use Rattle.roundtrip.specs.Trips.{ReadKeepsTrip}
use Rattle.roundtrip.proofs.Back.{written_reads_back}
use Rattle.roundtrip.proofs.Again.{calls_accepted, write_accepted, written_is}

codes_more : (xs : List Call) (c : Call) → codes_of (xs ++ (c ∷ [])) ≡ codes_of xs ++ (c.code ∷ [])
unfolding codes_of
codes_more [] c = refl
codes_more (x ∷ xs) c = rw (codes_more xs c)

numbers_more : (xs : List Call) (c : Call) → numbers_of (xs ++ (c ∷ [])) ≡ numbers_of xs ++ (c.number ∷ [])
unfolding numbers_of
numbers_more [] c = refl
numbers_more (x ∷ xs) c = rw (numbers_more xs c)

fit_codes : (b : List ℕ) → Bytes b → (n : ℕ) → Fit (codes_of (first_calls b n))
unfolding first_calls codes_of
fit_codes b h zero = none
fit_codes b h (suc n) = subst Fit (sym (codes_more (first_calls b n) (call_at b n))) (fit_append (fit_codes b h n) (more (word_fits b (2 * n) h) none))

fit_numbers : (b : List ℕ) → Bytes b → (n : ℕ) → Fit (numbers_of (first_calls b n))
unfolding first_calls numbers_of
fit_numbers b h zero = none
fit_numbers b h (suc n) = subst Fit (sym (numbers_more (first_calls b n) (call_at b n))) (fit_append (fit_numbers b h n) (more (word_fits b (2 * n + 1) h) none))

bytes_part : (f : List ℕ) (a n : ℕ) → Bytes f → Bytes (take n (drop a f))
bytes_part f a n h i = go (ltb i n) refl
  where
    go : (b : Bool) → ltb i n ≡ b → get_or (take n (drop a f)) i 0 < 256
    go true e = rw (part_at f a n i (ltb-true i n e)) (h (a + i))
    go false e = rw (get_or-eq_default (take n (drop a f)) 0 {n = i} (omega (arith, length-take n (drop a f), ltb-false i n e))) (lit< tt)

-- the codes and the numbers of a file that was read are words
pub words_read : (f : List ℕ) (p : Plan) (n : ℕ) → Bytes f → read_of f ≡ Ok (trip p n)
    → Words (codes_of (calls_of f)) × Words (numbers_of (calls_of f))
unfolding calls_in part_of
words_read f p n h e =
    let l = reads f (answers f p n e).accepted in
    let q : calls_of f ≡ calls_in (part_of f 2) = ap calls_in (section_is f 2 (found f 2 l.file l.two)) in
    let i = entry_to f 2 (section_count f) in
    let B : Bytes (part_of f 2) = bytes_part f (start_at f i) (length_at f i) h in
    let k = length (part_of f 2) / 8 in (
      fit_at {ws = codes_of (calls_of f)} (rw q (fit_codes (part_of f 2) B k)),
      fit_at {ws = numbers_of (calls_of f)} (rw q (fit_numbers (part_of f 2) B k)),
    )

pub read_keeps_trip : ReadKeepsTrip
unfolding calls_in part_of
read_keeps_trip f buf p n h e r =
    let a = answers f p n e in
    let l = reads f a.accepted in
    let o = holds f p n e in
    let s = section_is f 2 (found f 2 l.file l.two) in
    let zs = calls_of f in
    let q : zs ≡ calls_in (part_of f 2) = ap calls_in s in
    let cs = codes_of zs in
    let ns = numbers_of zs in
    let lc = length_codes zs in
    let ln = length-numbers zs in
    let right : calls_right (paired cs ns) ≡ true = ap calls_right (paired_again zs) ∙ (ap calls_right q ∙ l.parts.right) in
    let ok = write_accepted p cs ns (length buf) o.plan (calls_accepted cs ns (length buf) (λ z. omega (arith, z, lc, o.count, o.some)) (omega (arith, lc, o.count, o.few)) (ln ∙ sym lc) right (omega (arith, lc, o.count))) in
    let w : _ = written_is p cs ns buf ok ∙ ap (λ (m : ℕ). Ok (64 + 8 * m)) (lc ∙ o.count) in
    record {
      answer = w;
      again = written_reads_back p cs ns buf (64 + 8 * n) (words_read f p n h e).0 (words_read f p n h e).1 w;
    }
