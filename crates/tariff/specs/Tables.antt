-- Aids to `tariff`: what makes a table of caps right, as tests. The built-in table is right (`RightTables`). No rule
-- that has landed asks for more tables than that one. Assumes nothing.
use Rattle.std.specs.Prelude.{ℕ, zero, suc, ◌+◌, ◌*◌, ◌-◌, min, Bool, true, ◌&&◌, List, [], ◌∷◌, leb, ltb, eqb, get_or}
use Rattle.tariff.specs.declared.Units.{Units}
use Rattle.tariff.specs.declared.Table.{Table}
use Rattle.tariff.specs.Tests.{all, between}
use Rattle.tariff.specs.Units.{each, fits}
use Rattle.tariff.specs.Caps.{number, row_at}

-- aid: a test passes for the caps of each of the first n rows
unfoldable pub each_row : (Units → Bool) → List ℕ → ℕ → Bool
each_row p xs zero = true
each_row p xs (suc n) = each_row p xs n && p (row_at xs n).caps

-- aid: each cap is from 1 to m
abbrev pub caps_up_to : ℕ → Units → Bool
caps_up_to m u = fits (each 1 1 1 1) u && fits u (each m m m m)

-- aid: of the first n rows each begins later than the one before it
unfoldable pub days_rise : List ℕ → ℕ → Bool
days_rise xs zero = true
days_rise xs (suc zero) = true
days_rise xs (suc (suc i)) = days_rise xs (suc i) && ltb (number xs i 0) (number xs (suc i) 0)

-- aid: the n numbers from place i on are 0
unfoldable pub nothing_from : List ℕ → ℕ → ℕ → Bool
nothing_from xs i zero = true
nothing_from xs i (suc n) = nothing_from xs i n && eqb (get_or xs (i + n) 0) 0

-- aid: a table is right for a start day: 1 to 8 rows, the first no later than that day, days that rise, caps from 1 to
-- 1,000,000, and 0 past the rows
unfoldable pub table_right : Table → ℕ → Bool
table_right t start =
    let n : ℕ = min 8 t.count in
    all
    (between 1 t.count 8
    ∷ leb (number t.numbers 0 0) start
    ∷ days_rise t.numbers n
    ∷ each_row (caps_up_to 1000000) t.numbers n
    ∷ nothing_from t.numbers (5 * n) (40 - 5 * n)
    ∷ [])
