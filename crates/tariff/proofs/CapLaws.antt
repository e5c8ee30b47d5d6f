-- Tables of caps: the search from the last row back, the rows that it reads, and what the rows tell of every day. Assumes nothing.
use Prim.Native.Nat.{ℕ, zero, suc, ◌+◌, ◌*◌, ◌-◌, ◌≤◌, ◌<◌}
use mathlib.Core.Path.{◌≡◌, refl, sym, ◌∙◌, ap}
use mathlib.Core.Bool.{Bool, true, false, cond}
use mathlib.Core.List.{List, [], ◌∷◌, ◌++◌}
use native.Mathlib.Nat.{mul-le-mul_right}
use native.Mathlib.Omega.{arith}
use lib.Dec.{leb}
use lib.ListN.{length, replicate}
use borrow.Author.Tests.{leb-true, leb-false, le-leb, lt-leb}
use Rattle.tariff.specs.declared.Units.{Units}
use Rattle.tariff.specs.declared.Row.{Row}
use Rattle.tariff.specs.Units.{each, ◌⊕◌, ◌⊗◌, AtMost}
use Rattle.tariff.specs.Caps.{number, numbers_of, table_of, row_at, first_rows, rows_of, caps_from, caps_on, has_begun, rows_read, search_of}
use Rattle.tariff.specs.Tables.{each_row}
use Rattle.tariff.specs.Claims.{RowsOfTable, SearchFindsCaps, Rising, RowsRead, RowsTellDays}
use Rattle.tariff.proofs.Tests.{and_left, and_right}

-- what a row adds to the numbers moves those of the rows after it by five places; so the first row of a table is the first of its list, and the others are those of the
-- rest of the list
later_number : (r : Row) (ys : List ℕ) (i k : ℕ) → number (numbers_of (r ∷ []) ++ ys) (suc i) k ≡ number ys i k
later_number r ys i k = let e : 5 * suc i + k ≡ suc (suc (suc (suc (suc (5 * i + k))))) = omega arith in rw e refl

later_row : (r : Row) (ys : List ℕ) (i : ℕ) → row_at (numbers_of (r ∷ []) ++ ys) (suc i) ≡ row_at ys i
unfolding row_at
later_row r ys i = rw (later_number r ys i 0, later_number r ys i 1, later_number r ys i 2, later_number r ys i 3, later_number r ys i 4) refl

rows_cons : (r : Row) (ys : List ℕ) (n : ℕ) → first_rows (numbers_of (r ∷ []) ++ ys) (suc n) ≡ r ∷ first_rows ys n
unfolding first_rows row_at
rows_cons r ys zero = refl
rows_cons r ys (suc n) = rw (rows_cons r ys n, later_row r ys n) refl

rows_back : (rs : List Row) (zs : List ℕ) → first_rows (numbers_of rs ++ zs) (length rs) ≡ rs
unfolding first_rows
rows_back [] zs = refl
rows_back (r ∷ rs) zs = rows_cons r (numbers_of rs ++ zs) (length rs) ∙ ap (λ (ss : List Row). r ∷ ss) (rows_back rs zs)

pub rows_of_table : RowsOfTable
unfolding rows_of table_of
rows_of_table rs = rows_back rs (replicate (40 - 5 * length rs) 0)

-- reading one row more at the end of a list
caps_snoc : (rs : List Row) (r : Row) (found : Units) (d : ℕ) → caps_from (rs ++ (r ∷ [])) found d ≡ cond (leb r.first d) r.caps (caps_from rs found d)
unfolding caps_from
caps_snoc [] r found d = refl
caps_snoc (s ∷ rs) r found d = caps_snoc rs r (cond (leb s.first d) s.caps found) d

-- not more rows are read than there are
pub reads_at_most : (xs : List ℕ) (n d : ℕ) → rows_read xs n d ≤ n
unfolding rows_read
reads_at_most xs zero d = omega arith
reads_at_most xs (suc n) d = go (has_begun xs n d) (reads_at_most xs n d)
  where
    go : (b : Bool) → rows_read xs n d ≤ n → suc (cond b 0 (rows_read xs n d)) ≤ suc n
    go true h = omega arith
    go false h = omega arith

-- the row read last has the caps that reading all rows from the first on gives
found_caps : (xs : List ℕ) (n d : ℕ) → (row_at xs (n - rows_read xs n d)).caps ≡ caps_from (first_rows xs n) (row_at xs 0).caps d
unfolding rows_read first_rows caps_from row_at
found_caps xs zero d = refl
found_caps xs (suc n) d =
    go (has_begun xs n d) (found_caps xs n d) ∙ sym (caps_snoc (first_rows xs n) (row_at xs n) (row_at xs 0).caps d)
  where
    go : (b : Bool) → (row_at xs (n - rows_read xs n d)).caps ≡ caps_from (first_rows xs n) (row_at xs 0).caps d
        → (row_at xs (suc n - suc (cond b 0 (rows_read xs n d)))).caps ≡ cond b (row_at xs n).caps (caps_from (first_rows xs n) (row_at xs 0).caps d)
    go true h = let k : suc n - 1 ≡ n = omega arith in rw k refl
    go false h = let k : suc n - suc (rows_read xs n d) ≡ n - rows_read xs n d = omega arith in rw k h

pub search_finds_caps : SearchFindsCaps
unfolding search_of caps_on rows_of
search_finds_caps t d = found_caps t.numbers t.count d

-- one row of the search: it has begun, or it has not
reads_here : (xs : List ℕ) (n d : ℕ) → number xs n 0 ≤ d → rows_read xs (suc n) d ≡ 1
unfolding rows_read
reads_here xs n d h = rw (le-leb (number xs n 0) d h) refl

reads_on : (xs : List ℕ) (n d : ℕ) → d < number xs n 0 → rows_read xs (suc n) d ≡ suc (rows_read xs n d)
unfolding rows_read
reads_on xs n d h = rw (lt-leb (number xs n 0) d h) refl

reads_first : (xs : List ℕ) (d : ℕ) → rows_read xs 1 d ≡ 1
unfolding rows_read
reads_first xs d = go (has_begun xs 0 d)
  where
    go : (b : Bool) → suc (cond b 0 0) ≡ 1
    go true = refl
    go false = refl

-- days that rise one by one keep their order
fewer_rise : (xs : List ℕ) (n : ℕ) → Rising xs (suc n) → Rising xs n
fewer_rise xs n r i h = r i (omega (arith, h))

in_order : (xs : List ℕ) (n i j : ℕ) → Rising xs n → i ≤ j → j < n → number xs i 0 ≤ number xs j 0
in_order xs n i zero r h l = let k : i ≡ 0 = omega arith in rw k (omega arith)
in_order xs n i (suc j) r h l = go (leb i j) refl (λ m. in_order xs n i j r m (omega (arith, l)))
  where
    go : (b : Bool) → leb i j ≡ b → (i ≤ j → number xs i 0 ≤ number xs j 0) → number xs i 0 ≤ number xs (suc j) 0
    go true e ih = omega (arith, ih (leb-true i j e), r j l)
    go false e ih = let k : i ≡ suc j = omega (arith, leb-false i j e) in rw k (omega arith)

-- the rows read where row i is the last one that has begun, and where none has
reads_begun : (xs : List ℕ) (n i d : ℕ) → Rising xs n → i < n → number xs i 0 ≤ d → (suc i < n → d < number xs (suc i) 0) → rows_read xs n d ≡ n - i
reads_begun xs zero i d r h b l = omega (arith, h)
reads_begun xs (suc n) i d r h b l = go (leb n i) refl (λ m. reads_begun xs n i d (fewer_rise xs n r) m b (λ k. l (omega (arith, k))))
  where
    go : (c : Bool) → leb n i ≡ c → (i < n → rows_read xs n d ≡ n - i) → rows_read xs (suc n) d ≡ suc n - i
    go true e ih =
        let k : i ≡ n = omega (arith, leb-true n i e) in
        let m : suc n - i ≡ 1 = omega (arith, k) in
        rw m (reads_here xs n d (rw (sym k) b))
    go false e ih =
        let m : i < n = omega (arith, leb-false n i e) in
        let late : d < number xs n 0 = omega (arith, l (omega (arith, m)), in_order xs (suc n) (suc i) n r (omega (arith, m)) (omega arith)) in
        reads_on xs n d late ∙ omega (arith, ih m, m)

reads_before : (xs : List ℕ) (n d : ℕ) → Rising xs n → d < number xs 0 0 → rows_read xs n d ≡ n
unfolding rows_read
reads_before xs zero d r h = refl
reads_before xs (suc n) d r h =
    reads_on xs n d (omega (arith, h, in_order xs (suc n) 0 n r (omega arith) (omega arith)))
    ∙ ap suc (reads_before xs n d (fewer_rise xs n r) h)

pub rows_read_tell : RowsRead
unfolding search_of
rows_read_tell t r = record {
  begun = λ i d h b l. reads_begun t.numbers t.count i d r h b l;
  before = λ d h. reads_before t.numbers t.count d r h;
}

-- a search that has read so many rows: all but the last one read have not begun
pub record Reading (xs : List ℕ) (count d read : ℕ) : Type 0 where
  pub some : 1 ≤ read
  pub most : read ≤ count
  pub left : rows_read xs count d + 1 ≡ read + rows_read xs (count - read + 1) d

pub reading_first : (xs : List ℕ) (count d : ℕ) → 1 ≤ count → Reading xs count d 1
reading_first xs count d h =
    let k : count - 1 + 1 ≡ count = omega (arith, h) in
    record { some = omega arith; most = h; left = rw k (omega arith) }

-- its next step where the row that it comes to has not begun, and its end where that has, or at the first row
pub reading_next : (xs : List ℕ) (count d read : ℕ) → Reading xs count d read → read < count → d < number xs (count - read) 0 → Reading xs count d (read + 1)
reading_next xs count d read r h l =
    let k : count - read + 1 ≡ suc (count - read) = omega arith in
    let m : count - (read + 1) + 1 ≡ count - read = omega (arith, h) in
    let on : rows_read xs (suc (count - read)) d ≡ suc (rows_read xs (count - read) d) = reads_on xs (count - read) d l in
    let old : rows_read xs count d + 1 ≡ read + rows_read xs (suc (count - read)) d = rw k at r.left in
    record { some = omega arith; most = omega (arith, h); left = rw m (omega (arith, old, on)) }

pub reading_ends : (xs : List ℕ) (count d read : ℕ) → Reading xs count d read → number xs (count - read) 0 ≤ d → rows_read xs count d ≡ read
reading_ends xs count d read r b =
    let k : count - read + 1 ≡ suc (count - read) = omega arith in
    let old : rows_read xs count d + 1 ≡ read + rows_read xs (suc (count - read)) d = rw k at r.left in
    omega (arith, old, reads_here xs (count - read) d b)

pub reading_all : (xs : List ℕ) (count d : ℕ) → Reading xs count d count → rows_read xs count d ≡ count
reading_all xs count d r =
    let k : count - count + 1 ≡ 1 = omega arith in
    let old : rows_read xs count d + 1 ≡ count + rows_read xs 1 d = rw k at r.left in
    omega (arith, old, reads_first xs d)

-- at least one row is read
pub reads_some : (xs : List ℕ) (n d : ℕ) → 1 ≤ n → 1 ≤ rows_read xs n d
unfolding rows_read
reads_some xs zero d h = omega arith
reads_some xs (suc n) d h = omega arith

-- a test of each row passes for row i
row_passes : (p : Units → Bool) (xs : List ℕ) (n i : ℕ) → each_row p xs n ≡ true → i < n → p (row_at xs i).caps ≡ true
unfolding each_row
row_passes p xs zero i e h = absurd (omega (arith, h))
row_passes p xs (suc n) i e h = go (leb n i) refl (row_passes p xs n i (and_left (each_row p xs n) (p (row_at xs n).caps) e))
  where
    go : (b : Bool) → leb n i ≡ b → (i < n → p (row_at xs i).caps ≡ true) → p (row_at xs i).caps ≡ true
    go true f ih = let k : i ≡ n = omega (arith, leb-true n i f) in rw k (and_right (each_row p xs n) (p (row_at xs n).caps) e)
    go false f ih = ih (omega (arith, leb-false n i f))

pub rows_tell_days : RowsTellDays
rows_tell_days t p s e d =
    let i : ℕ = t.count - rows_read t.numbers t.count d in
    let found : (row_at t.numbers i).caps ≡ caps_on t d = unfold caps_on rows_of in found_caps t.numbers t.count d in
    rw (sym found) (row_passes p t.numbers t.count i e (omega (arith, s, reads_some t.numbers t.count d s)))

-- sums of cap × units keep the bound of the units
pub basis_grows : (m : ℕ) (s c past x : Units) → AtMost s (each m m m m ⊗ past) → AtMost c (each m m m m) → AtMost (s ⊕ c ⊗ x) (each m m m m ⊗ (past ⊕ x))
basis_grows m s c past x h l =
    omega (
      arith,
      h,
      mul-le-mul_right x.kb l.kb,
      mul-le-mul_right x.outgoing l.outgoing,
      mul-le-mul_right x.incoming l.incoming,
      mul-le-mul_right x.sms l.sms,
    )
