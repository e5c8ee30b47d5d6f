-- Laws of tests and of verdicts on one list of reasons after another. Assumes nothing.
use mathlib.Core.Path.{◌≡◌, refl}
use mathlib.Core.Bool.{Bool, true, false, cond, ◌&&◌}
use mathlib.Core.List.{List, [], ◌∷◌, ◌++◌}
use Rattle.tariff.specs.Tests.{Reason, verdict_of, is_accepted}
use Rattle.tariff.proofs.Tests.{and_left, and_right}
use Rattle.std.specs.Prelude.{Result, Ok, Err, ⊤}
use Rattle.tariff.specs.declared.Refusal.{Refusal}

-- a verdict, and where it accepts, another one
abbrev pub then : Result ⊤ Refusal → Result ⊤ Refusal → Result ⊤ Refusal
then (Ok tt) w = w
then (Err n) w = Err n

pub verdict-append : (rs ss : List Reason) → verdict_of (rs ++ ss) ≡ then (verdict_of rs) (verdict_of ss)
unfolding verdict_of
verdict-append [] ss = refl
verdict-append (r ∷ rs) ss = go r.holds (verdict-append rs ss)
  where
    go : (b : Bool) → verdict_of (rs ++ ss) ≡ then (verdict_of rs) (verdict_of ss) → cond b (Err r.refusal) (verdict_of (rs ++ ss)) ≡ then (cond b (Err r.refusal) (verdict_of rs)) (verdict_of ss)
    go true ih = refl
    go false ih = ih

pub then_both : (v w : Result ⊤ Refusal) → is_accepted (then v w) ≡ true → (is_accepted v ≡ true) × (is_accepted w ≡ true)
then_both (Ok tt) w h = (refl, h)
then_both (Err n) w h = (h, cc)

-- a verdict that accepts is that of no reason
pub accepted_is : (v : Result ⊤ Refusal) → is_accepted v ≡ true → v ≡ (Ok tt)
accepted_is (Ok tt) h = refl
accepted_is (Err n) h = cc

pub and_three : (a b c : Bool) → (a && b && c) ≡ true → (a ≡ true) × (b ≡ true) × (c ≡ true)
and_three a b c h = let x = and_left (a && b) c h in (and_left a b x, and_right a b x, and_right (a && b) c h)

pub and_four : (a b c d : Bool) → (a && b && c && d) ≡ true → (a ≡ true) × (b ≡ true) × (c ≡ true) × (d ≡ true)
and_four a b c d h = let y = and_three a b c (and_left (a && b && c) d h) in (y.0, y.1, y.2, and_right (a && b && c) d h)
