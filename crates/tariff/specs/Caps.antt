-- Tables of caps, the caps of a day, and the search for them (caps-1 to caps-3, rows-1, rows-2). Choices
-- (docs/DECISIONS.md, "Account"): what a table gives before its first row and after day 3833 (days before 181, and
-- after 3833), that the row found counts as read (rows read). Assumes nothing.
use Rattle.std.specs.Prelude.{ℕ, zero, suc, ◌+◌, ◌*◌, ◌-◌, ◌≤◌, Bool, cond, List, [], ◌∷◌, ◌++◌, leb, length, get_or, replicate}
use Rattle.tariff.specs.declared.Units.{Units}
use Rattle.tariff.specs.declared.Row.{Row}
use Rattle.tariff.specs.declared.Table.{Table}
use Rattle.tariff.specs.declared.Found.{Found}
use Rattle.tariff.specs.Units.{each}

-- caps-1: a row's first day and its caps
abbrev pub row : ℕ → ℕ → ℕ → ℕ → ℕ → Row
row day d o i s = record { first = day; caps = each d o i s }

-- caps-1: the six rows
abbrev pub cap_rows : List Row
cap_rows =
    row 181 20000 220 55 40
    ∷ row 365 18000 220 40 40
    ∷ row 730 15500 220 20 40
    ∷ row 1096 13000 190 20 30
    ∷ row 1461 11000 190 20 30
    ∷ row 1826 10000 190 20 30
    ∷ []

-- aid: a table as numbers, so that it can be lent: five a row, in order
abbrev pub numbers_of : List Row → List ℕ
numbers_of [] = []
numbers_of (r ∷ rs) = r.first ∷ r.caps.kb ∷ r.caps.outgoing ∷ r.caps.incoming ∷ r.caps.sms ∷ numbers_of rs

-- aid: the table of a list of rows, with 0 in the rest of the 40 places. Law: these are its rows (`RowsOfTable`)
unfoldable pub table_of : List Row → Table
table_of rs = record { count = length rs; numbers = numbers_of rs ++ replicate (40 - 5 * length rs) 0 }

-- caps-1: the table of the six rows
unfoldable pub built_in : Table
built_in = table_of cap_rows

-- aid: number k of row i, both from 0
abbrev pub number : List ℕ → ℕ → ℕ → ℕ
number xs i k = get_or xs (5 * i + k) 0

-- aid: row i
unfoldable pub row_at : List ℕ → ℕ → Row
row_at xs i = row (number xs i 0) (number xs i 1) (number xs i 2) (number xs i 3) (number xs i 4)

-- aid: the first n rows, in order
unfoldable pub first_rows : List ℕ → ℕ → List Row
first_rows xs zero = []
first_rows xs (suc n) = first_rows xs n ++ (row_at xs n ∷ [])

-- aid: the rows of a table
unfoldable pub rows_of : Table → List Row
rows_of t = first_rows t.numbers t.count

-- caps-2: the caps of the last row that has begun by day d, or those found before
unfoldable pub caps_from : List Row → Units → ℕ → Units
caps_from [] found d = found
caps_from (r ∷ rs) found d = caps_from rs (cond (leb r.first d) r.caps found) d

-- caps-2, caps-3: the caps of a day in a table. Before its first row a table gives that row's caps: no account stands
-- there. Laws: the search finds the same (`SearchFindsCaps`); they are those of a row (`RowsTellDays`)
unfoldable pub caps_on : Table → ℕ → Units
caps_on t d = caps_from (rows_of t) (row_at t.numbers 0).caps d

-- caps-2: row i has begun by day d
abbrev pub has_begun : List ℕ → ℕ → ℕ → Bool
has_begun xs i d = leb (number xs i 0) d

-- rows-1, rows-2: how many of the first n rows are read from the last one back, up to one that has begun, which counts,
-- too; all of them where none has
unfoldable pub rows_read : List ℕ → ℕ → ℕ → ℕ
rows_read xs zero d = 0
rows_read xs (suc i) d = suc (cond (has_begun xs i d) 0 (rows_read xs i d))

-- rows-1, rows-2: the caps of the row read last, and the rows read. Law: the row that has begun last, and those after
-- it (`RowsRead`)
unfoldable pub search_of : Table → ℕ → Found
search_of t d = record {
  caps = (row_at t.numbers (t.count - rows_read t.numbers t.count d)).caps;
  read = rows_read t.numbers t.count d;
}

-- aid: what the search asks of a table, 1 to 8 rows
pub record Searchable (count : ℕ) : Type 0 where
  pub some : 1 ≤ count
  pub most : count ≤ 8
