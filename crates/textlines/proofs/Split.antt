-- The lines of a text. Assumes nothing.
use mathlib.Core.Path.{◌≡◌, refl, sym, ◌∙◌, ap}
use mathlib.Core.Bool.{Bool, true, false}
use mathlib.Core.List.{List, [], ◌∷◌, ◌++◌, append_assoc}
use Prim.Native.Nat.{ℕ, zero, suc, ◌+◌, ◌≤◌, ◌<◌}
use native.Mathlib.Omega.{arith}
use lib.ListN.{length, get_or, take, drop}
use lib.Dec.{eqb}
use borrow.Author.Tests.{eq-eqb}
use Rattle.std.proofs.lemmas.Bool.{ne_eqb}
use Rattle.tripfile.specs.Bodies.{Call}
use Rattle.textlines.specs.Line.{line, right_line}
use Rattle.textlines.specs.Text.{text_of, onto, lines_of, right_lines}
use Rattle.textlines.proofs.OneLine.{Free, none, more, body, free_body, line_is}

pub nothing : lines_of [] ≡ []
unfolding lines_of
nothing = refl

lines_feed : (bs : List ℕ) (b : ℕ) → eqb b 10 ≡ true → lines_of (b ∷ bs) ≡ (b ∷ []) ∷ lines_of bs
unfolding lines_of
lines_feed bs b e = rw e

lines_other : (bs : List ℕ) (b : ℕ) → eqb b 10 ≡ false → lines_of (b ∷ bs) ≡ onto b (lines_of bs)
unfolding lines_of
lines_other bs b e = rw e

onto_few : (b : ℕ) (ls : List (List ℕ)) → length (onto b ls) ≤ length ls + 1
onto_few b [] = omega arith
onto_few b (l ∷ ls) = omega arith

-- no more lines than bytes
pub lines_few : (t : List ℕ) → length (lines_of t) ≤ length t
lines_few [] = omega (arith, ap length nothing)
lines_few (b ∷ bs) = go (eqb b 10) refl (lines_few bs)
  where
    go : (d : Bool) → eqb b 10 ≡ d → length (lines_of bs) ≤ length bs → length (lines_of (b ∷ bs)) ≤ length (b ∷ bs)
    go true e few = rw (lines_feed bs b e) (omega arith)
    go false e few = rw (lines_other bs b e) (omega (arith, onto_few b (lines_of bs)))

-- ---- of a text of lines

pub lines_line : {xs : List ℕ} → Free xs → (ys : List ℕ) → lines_of (xs ++ (10 ∷ ys)) ≡ (xs ++ (10 ∷ [])) ∷ lines_of ys
lines_line none ys = lines_feed ys 10 refl
lines_line (more {b = b} {bs = bs} e h) ys = lines_other (bs ++ (10 ∷ ys)) b e ∙ ap (onto b) (lines_line h ys)

pub lines_text : (c : Call) (cs : List Call) → lines_of (text_of (c ∷ cs)) ≡ line c ∷ lines_of (text_of cs)
unfolding text_of
lines_text c cs =
    ap (λ (x : List ℕ). lines_of (x ++ text_of cs)) (line_is c)
    ∙ (ap lines_of (append_assoc (body c) (10 ∷ []) (text_of cs))
    ∙ (lines_line (free_body c) (text_of cs) ∙ ap (λ (x : List ℕ). x ∷ lines_of (text_of cs)) (sym (line_is c))))

-- ---- the first line of a text

-- no line feed stands in the first e bytes
abbrev pub NoFeed : List ℕ → ℕ → Type 0
NoFeed s e = (k : ℕ) → k < e → get_or s k 0 ≡ 10 → ⊥

-- a line that ends in a line feed
pub first_ended : (s : List ℕ) (e : ℕ) → NoFeed s e → e < length s → get_or s e 0 ≡ 10
    → lines_of s ≡ take (suc e) s ∷ lines_of (drop (suc e) s)
first_ended [] e f l h = absurd (omega arith)
first_ended (x ∷ s) zero f l h = lines_feed s x (eq-eqb x 10 h)
first_ended (x ∷ s) (suc e) f l h =
    lines_other s x (ne_eqb x 10 (f 0 (omega arith))) ∙ ap (onto x) (first_ended s e (λ k m. f (suc k) (omega arith)) (omega arith) h)

-- the last line, without one
first_unended : (x : ℕ) (s : List ℕ) → NoFeed (x ∷ s) (length (x ∷ s)) → lines_of (x ∷ s) ≡ (x ∷ s) ∷ []
first_unended x [] f = lines_other [] x (ne_eqb x 10 (f 0 (omega arith))) ∙ ap (onto x) nothing
first_unended x (y ∷ s) f =
    lines_other (y ∷ s) x (ne_eqb x 10 (f 0 (omega arith))) ∙ ap (onto x) (first_unended y s (λ k m. f (suc k) (omega arith)))

-- a text without one is its last line
pub whole_line : (s : List ℕ) → 0 < length s → NoFeed s (length s) → lines_of s ≡ s ∷ []
whole_line [] h g = absurd (omega arith)
whole_line (x ∷ s) h g = first_unended x s g

-- ---- the lines together are the text

unfoldable pub joined : List (List ℕ) → List ℕ
joined [] = []
joined (l ∷ ls) = l ++ joined ls

joined_onto : (b : ℕ) (ls : List (List ℕ)) → joined (onto b ls) ≡ b ∷ joined ls
unfolding joined
joined_onto b [] = refl
joined_onto b (l ∷ ls) = refl

pub joined_lines : (t : List ℕ) → joined (lines_of t) ≡ t
unfolding joined
joined_lines [] = ap joined nothing
joined_lines (b ∷ bs) = go (eqb b 10) refl (joined_lines bs)
  where
    go : (d : Bool) → eqb b 10 ≡ d → joined (lines_of bs) ≡ bs → joined (lines_of (b ∷ bs)) ≡ b ∷ bs
    go true e ih = ap joined (lines_feed bs b e) ∙ ap (λ (x : List ℕ). b ∷ x) ih
    go false e ih = ap joined (lines_other bs b e) ∙ (joined_onto b (lines_of bs) ∙ ap (λ (x : List ℕ). b ∷ x) ih)

-- ---- right lines

pub right_yes : (l : List ℕ) (ls : List (List ℕ)) → right_line l ≡ true → right_lines (l ∷ ls) ≡ suc (right_lines ls)
unfolding right_lines
right_yes l ls e = rw e

pub right_no : (l : List ℕ) (ls : List (List ℕ)) → right_line l ≡ false → right_lines (l ∷ ls) ≡ 0
unfolding right_lines
right_no l ls e = rw e

pub right_none : right_lines [] ≡ 0
unfolding right_lines
right_none = refl
