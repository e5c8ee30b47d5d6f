-- What holds of every table of caps and of the search in it (caps-1 to caps-3, rows-1 to rows-3). No choice matters
-- here but who is told the rows (docs/DECISIONS.md, "Account"). Assumes nothing.
use Rattle.std.specs.Prelude.{ℕ, suc, ◌-◌, ◌≤◌, ◌<◌, ◌≡◌, Bool, true, List}
use Rattle.tariff.specs.declared.Units.{Units}
use Rattle.tariff.specs.declared.Row.{Row}
use Rattle.tariff.specs.declared.Table.{Table}
use Rattle.tariff.specs.Units.{each, AtMost}
use Rattle.tariff.specs.Caps.{number, table_of, built_in, rows_of, caps_on, search_of}
use Rattle.tariff.specs.Tables.{each_row, table_right}

-- aid: every list of rows has a table, so what is said of tables is said of lists of rows
abbrev pub RowsOfTable : Type 0
RowsOfTable = (rs : List Row) → rows_of (table_of rs) ≡ rs

-- rows-3, caps-2: on every day the search finds what reading all rows from the first on gives
abbrev pub SearchFindsCaps : Type 0
SearchFindsCaps = (t : Table) (d : ℕ) → (search_of t d).caps ≡ caps_on t d

-- aid: each of the first n rows but the first begins later than the one before
abbrev pub Rising : List ℕ → ℕ → Type 0
Rising xs n = (i : ℕ) → suc i < n → number xs i 0 < number xs (suc i) 0

-- rows-2: where row i has begun and the next has not, row i and those after it are read; before the first row, all
pub record RowsReadIn (t : Table) : Type 0 where
  pub begun : (i d : ℕ) → i < t.count → number t.numbers i 0 ≤ d
      → (suc i < t.count → d < number t.numbers (suc i) 0) → (search_of t d).read ≡ t.count - i
  pub before : (d : ℕ) → d < number t.numbers 0 0 → (search_of t d).read ≡ t.count

-- rows-2: so it is in every table whose days rise
abbrev pub RowsRead : Type 0
RowsRead = (t : Table) → Rising t.numbers t.count → RowsReadIn t

-- caps-2: a test that passes for the caps of every row passes for those of every day
abbrev pub RowsTellDays : Type 0
RowsTellDays = (t : Table) (p : Units → Bool) → 1 ≤ t.count → each_row p t.numbers t.count ≡ true
    → (d : ℕ) → p (caps_on t d) ≡ true

-- aid: each cap is from 1 to m
pub record CapsIn (m : ℕ) (u : Units) : Type 0 where
  pub some : AtMost (each 1 1 1 1) u
  pub most : AtMost u (each m m m m)

-- aid: what a right table tells
pub record Right (t : Table) : Type 0 where
  pub some : 1 ≤ t.count
  pub most : t.count ≤ 8
  pub rises : Rising t.numbers t.count
  pub caps_on_day : (d : ℕ) → CapsIn 1000000 (caps_on t d)

-- caps-1: each right table tells that; the built-in one is right from day 181 on, with caps of 1 to 20,000
pub record RightTables : Type 0 where
  pub tells : (t : Table) (start : ℕ) → table_right t start ≡ true → Right t
  pub built_in_right : (start : ℕ) → 181 ≤ start → table_right built_in start ≡ true
  pub built_in_caps : (d : ℕ) → CapsIn 20000 (caps_on built_in d)
