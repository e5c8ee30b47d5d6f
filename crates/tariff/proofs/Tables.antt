-- What the rules of a table of caps tell, and that the built-in table keeps them. Assumes nothing.
use Prim.Native.Nat.{ℕ, zero, suc, ◌≤◌, ◌<◌, min}
use mathlib.Core.Path.{◌≡◌, refl}
use mathlib.Core.Bool.{Bool, true, false}
use mathlib.Core.List.{List}
use native.Mathlib.Omega.{arith}
use lib.Dec.{leb, ltb}
use borrow.Author.Tests.{leb-true, leb-false, le-leb, ltb-true}
use Rattle.tariff.specs.declared.Units.{Units}
use Rattle.tariff.specs.declared.Table.{Table}
use Rattle.tariff.specs.Tests.{all}
use Rattle.tariff.specs.Units.{each, fits}
use Rattle.tariff.specs.Caps.{number, table_of, built_in, row_at, caps_on}
use Rattle.tariff.specs.Tables.{each_row, caps_up_to, days_rise, nothing_from, table_right}
use Rattle.tariff.specs.Claims.{Rising, CapsIn, Right, RightTables}
use Rattle.tariff.proofs.Tests.{and_left, and_right, all_head, all_tail}
use Rattle.tariff.proofs.Sums.{fits_tells}
use Rattle.tariff.proofs.CapLaws.{rows_tell_days}

-- what the tests of a right table tell
caps_in : (m : ℕ) (u : Units) → caps_up_to m u ≡ true → CapsIn m u
caps_in m u e =
    let a = fits (each 1 1 1 1) u in
    let b = fits u (each m m m m) in
    record { some = fits_tells _ _ (and_left a b e); most = fits_tells _ _ (and_right a b e) }

rise_tells : (xs : List ℕ) (n : ℕ) → days_rise xs n ≡ true → Rising xs n
unfolding days_rise
rise_tells xs zero e i h = omega (arith, h)
rise_tells xs (suc zero) e i h = omega (arith, h)
rise_tells xs (suc (suc n)) e i h =
    go (leb n i) refl (rise_tells xs (suc n) (and_left (days_rise xs (suc n)) (ltb (number xs n 0) (number xs (suc n) 0)) e) i)
  where
    go : (b : Bool) → leb n i ≡ b → (suc i < suc n → number xs i 0 < number xs (suc i) 0) → number xs i 0 < number xs (suc i) 0
    go true f ih =
        let k : i ≡ n = omega (arith, leb-true n i f) in
        rw k (ltb-true (number xs n 0) (number xs (suc n) 0) (and_right (days_rise xs (suc n)) (ltb (number xs n 0) (number xs (suc n) 0)) e))
    go false f ih = ih (omega (arith, leb-false n i f))

pub table_tells : (t : Table) (start : ℕ) → table_right t start ≡ true → Right t
unfolding table_right
table_tells t start e =
    let c = all_head _ _ e in
    let l = leb 1 t.count in
    let some : 1 ≤ t.count = leb-true _ _ (and_left l (leb t.count 8) c) in
    let most : t.count ≤ 8 = leb-true _ _ (and_right l (leb t.count 8) c) in
    let n : min 8 t.count ≡ t.count = omega (arith, most) in
    let rest = all_tail _ _ (all_tail _ _ e) in
    record {
      some = some;
      most = most;
      rises = rise_tells t.numbers t.count (rw n at (all_head _ _ rest));
      caps_on_day = λ d. caps_in 1000000 (caps_on t d) (rows_tell_days t (caps_up_to 1000000) some (rw n at (all_head _ _ (all_tail _ _ rest))) d);
    }

-- the caps of the built-in table are from 1 to 20,000
pub caps_bound : (d : ℕ) → CapsIn 20000 (caps_on built_in d)
unfolding built_in table_of each_row row_at
caps_bound d = caps_in 20000 (caps_on built_in d) (rows_tell_days built_in (caps_up_to 20000) (omega arith) refl d)

built_in_right : (start : ℕ) → 181 ≤ start → table_right built_in start ≡ true
unfolding table_right all built_in table_of row_at days_rise each_row nothing_from
built_in_right start h = rw (le-leb 181 start h) refl

pub right_tables : RightTables
right_tables = record { tells = table_tells; built_in_right = built_in_right; built_in_caps = caps_bound }
