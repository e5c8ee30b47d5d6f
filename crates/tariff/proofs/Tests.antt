-- Laws of tests, of lists of tests, and of verdicts. Assumes nothing.
use mathlib.Core.Path.{◌≡◌, refl, sym}
use mathlib.Core.Bool.{Bool, true, false, not, cond, ◌&&◌}
use mathlib.Core.List.{List, [], ◌∷◌}
use Prim.Native.Nat.{ℕ, ◌≤◌}
use lib.Dec.{leb, eqb}
use borrow.Author.Tests.{leb-true, le-leb, eqb-true, eq-eqb}
use Rattle.tariff.specs.Tests.{all, all_from, Reason, verdict_of, is_accepted}
use Rattle.std.specs.Prelude.{Err}

-- two tests are the same where each implies the other
pub bool_ext : (s t : Bool) → (s ≡ true → t ≡ true) → (t ≡ true → s ≡ true) → s ≡ t
bool_ext true t f g = sym (f refl)
bool_ext false true f g = g refl
bool_ext false false f g = refl

pub leb_ext : (a b c d : ℕ) → (a ≤ b → c ≤ d) → (c ≤ d → a ≤ b) → leb a b ≡ leb c d
leb_ext a b c d f g = bool_ext _ _ (λ h. le-leb c d (f (leb-true a b h))) (λ h. le-leb a b (g (leb-true c d h)))

pub eqb_ext : (a b c d : ℕ) → (a ≡ b → c ≡ d) → (c ≡ d → a ≡ b) → eqb a b ≡ eqb c d
eqb_ext a b c d f g = bool_ext _ _ (λ h. eq-eqb c d (f (eqb-true a b h))) (λ h. eq-eqb a b (g (eqb-true c d h)))

pub not-true : (b : Bool) → not b ≡ true → b ≡ false
not-true true h = sym h
not-true false h = refl

pub not-false : (b : Bool) → not b ≡ false → b ≡ true
not-false true h = refl
not-false false h = sym h

pub and_left : (s t : Bool) → s && t ≡ true → s ≡ true
and_left true t h = refl
and_left false t h = h

pub and_right : (s t : Bool) → s && t ≡ true → t ≡ true
and_right true t h = h
and_right false true h = refl
and_right false false h = h

pub and_both : (s t : Bool) → s ≡ true → t ≡ true → s && t ≡ true
and_both s t p q = rw p q

pub and-false : (s : Bool) → s && false ≡ false
and-false true = refl
and-false false = refl

pub and-true : (s : Bool) → s && true ≡ s
and-true true = refl
and-true false = refl

pub and_assoc : (s t u : Bool) → (s && t) && u ≡ s && (t && u)
and_assoc true t u = refl
and_assoc false t u = refl

-- a list of tests passes exactly if its first one and the others do
pub all_nil : all [] ≡ true
unfolding all
all_nil = refl

pub all_cons : (b : Bool) (bs : List Bool) → b ≡ true → all bs ≡ true → all (b ∷ bs) ≡ true
unfolding all
all_cons b [] e h = e
all_cons b (c ∷ cs) e h = rw e h

split : (t : Bool) (ts : List Bool) → all_from t ts ≡ true → (t ≡ true) × (all ts ≡ true)
unfolding all
split t [] h = (h, refl)
split t (u ∷ us) h =
    let r = split (t && u) us h in
    (and_left t u r.0, all_cons u us (and_right t u r.0) r.1)

pub all_head : (b : Bool) (bs : List Bool) → all (b ∷ bs) ≡ true → b ≡ true
unfolding all
all_head b bs e = (split b bs e).0

pub all_tail : (b : Bool) (bs : List Bool) → all (b ∷ bs) ≡ true → all bs ≡ true
unfolding all
all_tail b bs e = (split b bs e).1

-- each of the tests passes
abbrev pub Pass : List Bool → Type 0
Pass [] = Unit {0}
Pass (t ∷ ts) = (t ≡ true) × Pass ts

pub pass : (ts : List Bool) → all ts ≡ true → Pass ts
pass [] h = tt
pass (t ∷ ts) h = (all_head t ts h, pass ts (all_tail t ts h))

-- an accepting list of reasons: its first does not hold, and the others accept
pub first_fails : (r : Reason) (rs : List Reason) → is_accepted (verdict_of (r ∷ rs)) ≡ true → r.holds ≡ false
unfolding verdict_of
first_fails r rs h = go r.holds h
  where
    go : (b : Bool) → is_accepted (cond b (Err r.refusal) (verdict_of rs)) ≡ true → b ≡ false
    go true f = sym f
    go false f = refl

pub rest_accepts : (r : Reason) (rs : List Reason) → is_accepted (verdict_of (r ∷ rs)) ≡ true → is_accepted (verdict_of rs) ≡ true
unfolding verdict_of
rest_accepts r rs h = go r.holds h
  where
    go : (b : Bool) → is_accepted (cond b (Err r.refusal) (verdict_of rs)) ≡ true → is_accepted (verdict_of rs) ≡ true
    go true f = cc
    go false f = f

pub accepts_cons : (r : Reason) (rs : List Reason) → r.holds ≡ false → is_accepted (verdict_of rs) ≡ true → is_accepted (verdict_of (r ∷ rs)) ≡ true
unfolding verdict_of
accepts_cons r rs e h = rw e h
