-- What a file that 10, 11 and 12 do not decline is like. Assumes nothing.
use mathlib.Core.Path.{◌≡◌, refl}
use mathlib.Core.Bool.{Bool, true, false, ◌&&◌}
use mathlib.Core.List.{List}
use Prim.Native.Nat.{ℕ, zero, suc, ◌+◌, ◌*◌, ◌%◌, ◌≤◌, ◌<◌}
use native.Mathlib.Numerals.{add-one}
use native.Mathlib.Omega.{arith}
use lib.ListN.{length}
use lib.Dec.{leb, eqb}
use borrow.Author.Tests.{leb-true, le-leb, eqb-true, eq-eqb, eqb-false}
use Rattle.words.specs.Words.{word, wrapped_sum}
use Rattle.tariff.specs.Tests.{verdict_of, is_accepted}
use Rattle.tariff.proofs.Tests.{and_left, and_right, first_fails, rest_accepts, not-false}
use Rattle.sections.specs.Table.{length_right, sum_right, table_right, section_count, start_at, length_at, body_start, follow_to, file_reasons, file_verdict}
use Rattle.tariff.proofs.Verdicts.{and_four}

pub record Keeps (f : List ℕ) : Type 0 where
  pub long : 12 ≤ length f
  pub short : length f ≤ 65536
  pub fours : length f % 4 ≡ 0
  pub head : word f 0 ≡ length f
  pub sums : wrapped_sum f ≡ 0
  pub some : 1 ≤ section_count f
  pub few : section_count f ≤ 8
  pub room : 12 + 12 * section_count f ≤ length f
  pub follow : follow_to f (section_count f) ≡ true
  pub ends : body_start f (section_count f) ≡ length f

record Sized (f : List ℕ) : Type 0 where
  long : 12 ≤ length f
  short : length f ≤ 65536
  fours : length f % 4 ≡ 0
  head : word f 0 ≡ length f

record Tabled (f : List ℕ) : Type 0 where
  some : 1 ≤ section_count f
  few : section_count f ≤ 8
  room : 12 + 12 * section_count f ≤ length f
  follow : follow_to f (section_count f) ≡ true
  ends : body_start f (section_count f) ≡ length f

sized : (f : List ℕ) → length_right f ≡ true → Sized f
unfolding length_right
sized f h =
    let x = and_four (leb 12 (length f)) (leb (length f) 65536) (eqb (length f % 4) 0) (eqb (word f 0) (length f)) h in
    record { long = leb-true _ _ x.0; short = leb-true _ _ x.1; fours = eqb-true _ _ x.2; head = eqb-true _ _ x.3 }

pub at_least : (f : List ℕ) → length_right f ≡ true → 12 ≤ length f
at_least f h = (sized f h).long

tabled : (f : List ℕ) → table_right f ≡ true → Tabled f
unfolding table_right
tabled f h =
    let n = section_count f in
    let g = follow_to f n in
    let e = eqb (body_start f n) (length f) in
    let x = and_four (leb 1 n) (leb n 8) (leb (12 + 12 * n) (length f)) (g && e) h in
    record { some = leb-true _ _ x.0; few = leb-true _ _ x.1; room = leb-true _ _ x.2; follow = and_left g e x.3; ends = eqb-true _ _ (and_right g e x.3) }

summed : (f : List ℕ) → sum_right f ≡ true → wrapped_sum f ≡ 0
unfolding sum_right
summed f h = eqb-true _ _ h

pub keeps : (f : List ℕ) → is_accepted (file_verdict f) ≡ true → Keeps f
unfolding file_verdict file_reasons
keeps f h =
    let h₂ = rest_accepts _ _ h in
    let s = sized f (not-false (length_right f) (first_fails _ _ h)) in
    let t = tabled f (not-false (table_right f) (first_fails _ _ (rest_accepts _ _ h₂))) in
    record {
      long = s.long;
      short = s.short;
      fours = s.fours;
      head = s.head;
      sums = summed f (not-false (sum_right f) (first_fails _ _ h₂));
      some = t.some;
      few = t.few;
      room = t.room;
      follow = t.follow;
      ends = t.ends;
    }

-- ---- and the other way round

length_kept : (f : List ℕ) → 12 ≤ length f → length f ≤ 65536 → length f % 4 ≡ 0 → word f 0 ≡ length f → length_right f ≡ true
unfolding length_right
length_kept f a b c d = rw (le-leb _ _ a, le-leb _ _ b, eq-eqb _ _ c, eq-eqb _ _ d)

sum_kept : (f : List ℕ) → wrapped_sum f ≡ 0 → sum_right f ≡ true
unfolding sum_right
sum_kept f h = eq-eqb (wrapped_sum f) 0 h

table_kept : (f : List ℕ) → Keeps f → table_right f ≡ true
unfolding table_right
table_kept f k = rw (le-leb _ _ k.some, le-leb _ _ k.few, le-leb _ _ k.room, k.follow) (eq-eqb _ _ k.ends)

pub kept : (f : List ℕ) → Keeps f → is_accepted (file_verdict f) ≡ true
unfolding file_verdict file_reasons verdict_of
kept f k = rw (length_kept f k.long k.short k.fours k.head, sum_kept f k.sums, table_kept f k)

-- ---- one entry more

pub body_more : (f : List ℕ) (i : ℕ) → body_start f (i + 1) ≡ body_start f i + length_at f i
unfolding body_start
body_more f i = rw (add-one i)

pub follow_more : (f : List ℕ) (i : ℕ) → follow_to f (i + 1) ≡ (follow_to f i && eqb (start_at f i) (body_start f i) && eqb (length_at f i % 4) 0)
unfolding follow_to
follow_more f i = rw (add-one i)

-- ---- the bodies of a table that keeps the rules

pub body_grows : (f : List ℕ) (i n : ℕ) → i ≤ n → body_start f i ≤ body_start f n
unfolding body_start
body_grows f i zero h = let e : i ≡ 0 = omega arith in rw e (omega arith)
body_grows f i (suc n) h = go (eqb i (suc n)) refl (λ l. body_grows f i n l)
  where
    go : (b : Bool) → eqb i (suc n) ≡ b → (i ≤ n → body_start f i ≤ body_start f n) → body_start f i ≤ body_start f (suc n)
    go true e ih = rw (eqb-true i (suc n) e) (omega arith)
    go false e ih = let l : i ≤ n = omega (arith, eqb-false i (suc n) e) in omega (arith, ih l)

pub entry_start : (f : List ℕ) (i n : ℕ) → follow_to f n ≡ true → i < n → start_at f i ≡ body_start f i
unfolding follow_to
entry_start f i zero h l = absurd (omega arith)
entry_start f i (suc n) h l = go (eqb i n) refl (λ l'. entry_start f i n (and_left _ _ first) l')
  where
    first : (follow_to f n && eqb (start_at f n) (body_start f n)) ≡ true
    first = and_left (follow_to f n && eqb (start_at f n) (body_start f n)) (eqb (length_at f n % 4) 0) h

    go : (b : Bool) → eqb i n ≡ b → (i < n → start_at f i ≡ body_start f i) → start_at f i ≡ body_start f i
    go true e ih = rw (eqb-true i n e) (eqb-true (start_at f n) (body_start f n) (and_right (follow_to f n) (eqb (start_at f n) (body_start f n)) first))
    go false e ih = let l' : i < n = omega (arith, eqb-false i n e) in ih l'
