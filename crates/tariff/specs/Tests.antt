-- Tests in a list, and reasons to decline, of which the first that holds gives the refusal (order-1, form-8). Every
-- operation's reasons are such a list. No choice matters here. Assumes nothing.
use Rattle.std.specs.Prelude.{ℕ, Bool, true, false, cond, ◌&&◌, List, [], ◌∷◌, leb, Result, Ok, Err, ⊤}
use Rattle.tariff.specs.declared.Refusal.{Refusal}

-- aid to `all`: t and every test of the list pass
abbrev pub all_from : Bool → List Bool → Bool
all_from t [] = t
all_from t (u ∷ us) = all_from (t && u) us

-- aid: every test of the list passes
unfoldable pub all : List Bool → Bool
all [] = true
all (t ∷ ts) = all_from t ts

-- aid: n is from l to h
abbrev pub between : ℕ → ℕ → ℕ → Bool
between l n h = leb l n && leb n h

-- order-1: a refusal and whether its reason holds
pub record Reason : Type 0 where
  pub refusal : Refusal
  pub holds : Bool

-- aid: a reason from its two parts
abbrev pub because : Refusal → Bool → Reason
because r b = record { refusal = r; holds = b }

-- order-1, list-3, form-8: the refusal of the first reason that holds, else accepted. Law: a refusal is one of the
-- list (`ReasonsInOrder`)
unfoldable pub verdict_of : List Reason → Result ⊤ Refusal
verdict_of [] = Ok tt
verdict_of (r ∷ rs) = cond r.holds (Err r.refusal) (verdict_of rs)

-- list-3: no reason holds
abbrev pub is_accepted : Result ⊤ Refusal → Bool
is_accepted (Ok tt) = true
is_accepted (Err r) = false
