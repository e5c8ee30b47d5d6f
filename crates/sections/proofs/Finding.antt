-- Laws of finding a section. Assumes nothing.
use mathlib.Core.Path.{◌≡◌, refl, sym, ◌∙◌, ap}
use mathlib.Core.Bool.{Bool, true, false, cond, not}
use mathlib.Core.List.{List, [], ◌∷◌}
use Prim.Native.Nat.{ℕ, zero, suc, ◌+◌, ◌*◌, ◌≤◌, ◌<◌}
use native.Mathlib.Numerals.{add-one}
use native.Mathlib.Omega.{arith}
use lib.ListN.{length, take, drop, length-take, length-drop}
use lib.Dec.{ltb, eqb}
use borrow.Author.Tests.{eqb-true, ltb-true, ltb-false}
use Rattle.tariff.specs.Tests.{because, verdict_of, is_accepted}
use Rattle.sections.specs.Table.{section_count, kind_at, start_at, length_at, body_start, file_reasons, file_verdict}
use Rattle.sections.specs.Find.{one_if, times_to, entry_to, just_once, part_of, find_reasons, find_verdict, or_nothing, section_of, part_start, part_length}
use Rattle.tariff.proofs.Verdicts.{then, verdict-append, then_both}
use Rattle.sections.proofs.Table.{Keeps, entry_start, body_more, body_grows}
use Rattle.std.specs.Prelude.{Result, Ok, Err, ⊤}
use Rattle.tariff.specs.declared.Refusal.{Refusal}
use Rattle.tariff.specs.declared.Refusal.TheVariants.{NotOnce}

-- finding declines what the file is declined for, and then 13
pub find_then : (f : List ℕ) (k : ℕ) → find_verdict f k ≡ then (file_verdict f) (cond (not (just_once f k)) (Err NotOnce) (Ok tt))
unfolding find_verdict find_reasons file_verdict verdict_of
find_then f k = verdict-append (file_reasons f) (because NotOnce (not (just_once f k)) ∷ [])

pub found_both : (f : List ℕ) (k : ℕ) → is_accepted (find_verdict f k) ≡ true → (is_accepted (file_verdict f) ≡ true) × (just_once f k ≡ true)
found_both f k h =
    let t = then_both (file_verdict f) (cond (not (just_once f k)) (Err NotOnce) (Ok tt)) (ap is_accepted (sym (find_then f k)) ∙ h) in
    (t.0, go (just_once f k) t.1)
  where
    go : (b : Bool) → is_accepted (cond (not b) (Err NotOnce) (Ok tt)) ≡ true → b ≡ true
    go true e = refl
    go false e = e

pub found : (f : List ℕ) (k : ℕ) → is_accepted (file_verdict f) ≡ true → just_once f k ≡ true → is_accepted (find_verdict f k) ≡ true
found f k a b = ap is_accepted (find_then f k) ∙ go (file_verdict f) a
  where
    go : (v : Result ⊤ Refusal) → is_accepted v ≡ true → is_accepted (then v (cond (not (just_once f k)) (Err NotOnce) (Ok tt))) ≡ true
    go (Ok tt) e = rw b
    go (Err n) e = e

-- a section that is found is the part that its entry names
pub section_is : (f : List ℕ) (k : ℕ) → is_accepted (find_verdict f k) ≡ true → section_of f k ≡ part_of f k
unfolding section_of
section_is f k h = go (find_verdict f k) h
  where
    go : (v : Result ⊤ Refusal) → is_accepted v ≡ true → or_nothing v (part_of f k) ≡ part_of f k
    go (Ok tt) e = refl
    go (Err n) e = cc

-- ---- one entry more

pub times_more : (f : List ℕ) (k i : ℕ) → times_to f k (i + 1) ≡ times_to f k i + one_if (eqb (kind_at f i) k)
unfolding times_to
times_more f k i = rw (add-one i)

pub entry_more : (f : List ℕ) (k i : ℕ) → entry_to f k (i + 1) ≡ cond (eqb (kind_at f i) k) i (entry_to f k i)
unfolding entry_to
entry_more f k i = rw (add-one i)

-- ---- the entry of a kind that is there lies in the file

entry_below : (f : List ℕ) (k n : ℕ) → 0 < times_to f k n → entry_to f k n < n
unfolding times_to entry_to
entry_below f k zero h = absurd (omega arith)
entry_below f k (suc n) h = go (eqb (kind_at f n) k) refl (λ l. entry_below f k n l)
  where
    go : (b : Bool) → eqb (kind_at f n) k ≡ b → (0 < times_to f k n → entry_to f k n < n) → cond (eqb (kind_at f n) k) n (entry_to f k n) < suc n
    go true e ih = rw e (omega arith)
    go false e ih =
        let h' : 0 < times_to f k n + one_if (eqb (kind_at f n) k) = h in
        let h'' : 0 < times_to f k n + 0 = rw e at h' in
        let l : entry_to f k n < n = ih (omega arith) in
        rw e (omega arith)

pub record Lies (f : List ℕ) (i : ℕ) : Type 0 where
  pub listed : i < section_count f
  pub within : start_at f i + length_at f i ≤ length f

pub lies : (f : List ℕ) (k : ℕ) → Keeps f → just_once f k ≡ true → Lies f (entry_to f k (section_count f))
unfolding just_once
lies f k g h =
    let one = eqb-true (times_to f k (section_count f)) 1 h in
    let l : entry_to f k (section_count f) < section_count f = entry_below f k (section_count f) (omega arith) in
    let i = entry_to f k (section_count f) in
    record {
      listed = l;
      within = omega (arith, entry_start f i (section_count f) g.follow l, body_more f i, body_grows f (i + 1) (section_count f) (omega arith), g.ends);
    }

pub part_within : (f : List ℕ) (k : ℕ) → Keeps f → just_once f k ≡ true → part_start f k + part_length f k ≤ length f
unfolding part_start part_length
part_within f k g h = (lies f k g h).within

pub part_bytes : (f : List ℕ) (k : ℕ) → take (part_length f k) (drop (part_start f k) f) ≡ part_of f k
unfolding part_start part_length part_of
part_bytes f k = refl

-- ---- the parts of two kinds lie apart

entry_kind : (f : List ℕ) (k n : ℕ) → 0 < times_to f k n → kind_at f (entry_to f k n) ≡ k
unfolding times_to entry_to
entry_kind f k zero h = absurd (omega arith)
entry_kind f k (suc n) h = go (eqb (kind_at f n) k) refl (λ l. entry_kind f k n l)
  where
    go : (b : Bool) → eqb (kind_at f n) k ≡ b → (0 < times_to f k n → kind_at f (entry_to f k n) ≡ k) → kind_at f (cond (eqb (kind_at f n) k) n (entry_to f k n)) ≡ k
    go true e ih = rw e (eqb-true (kind_at f n) k e)
    go false e ih =
        let h' : 0 < times_to f k n + one_if (eqb (kind_at f n) k) = h in
        let h'' : 0 < times_to f k n + 0 = rw e at h' in
        let l : 0 < times_to f k n = omega arith in
        rw e (ih l)

pub found_kind : (f : List ℕ) (k : ℕ) → just_once f k ≡ true → kind_at f (entry_to f k (section_count f)) ≡ k
unfolding just_once
found_kind f k h = let one = eqb-true (times_to f k (section_count f)) 1 h in entry_kind f k (section_count f) (omega arith)

pub length_part : (f : List ℕ) (k : ℕ) → Keeps f → just_once f k ≡ true → length (part_of f k) ≡ length_at f (entry_to f k (section_count f))
unfolding part_of
length_part f k g h =
    let i = entry_to f k (section_count f) in
    length-take (length_at f i) (drop (start_at f i) f) ∙ omega (arith, length-drop (start_at f i) f, lies f k g h)

first_body : (f : List ℕ) → body_start f 0 ≡ 12 + 12 * section_count f
unfolding body_start
first_body f = refl

-- one entry after another: both bodies lie after the table
one_after : (f : List ℕ) (i j : ℕ) → Keeps f → i < j → j < section_count f → 36 + length_at f i + length_at f j ≤ length f
one_after f i j g l m =
    omega (arith, first_body f, body_grows f 0 i (omega arith), body_more f i, body_grows f (i + 1) j (omega arith), body_more f j, body_grows f (j + 1) (section_count f) (omega arith), g.ends)

pub parts_fit : (f : List ℕ) (k m : ℕ) → Keeps f → just_once f k ≡ true → just_once f m ≡ true → (k ≡ m → ⊥) → 36 + length (part_of f k) + length (part_of f m) ≤ length f
parts_fit f k m g a b d = go (ltb i j) refl
  where
    i : ℕ
    i = entry_to f k (section_count f)

    j : ℕ
    j = entry_to f m (section_count f)

    apart : i ≡ j → ⊥
    apart e = d (sym (found_kind f k a) ∙ (ap (kind_at f) e ∙ found_kind f m b))

    lt_of : j ≤ i → (i ≡ j → ⊥) → j < i
    lt_of l n = omega (arith, n)

    go : (t : Bool) → ltb i j ≡ t → 36 + length (part_of f k) + length (part_of f m) ≤ length f
    go true e = omega (arith, length_part f k g a, length_part f m g b, one_after f i j g (ltb-true i j e) (lies f m g b).listed)
    go false e =
        let l : j ≤ i = ltb-false i j e in
        let l' : j < i = lt_of l apart in
        omega (arith, length_part f k g a, length_part f m g b, one_after f j i g l' (lies f k g a).listed)
