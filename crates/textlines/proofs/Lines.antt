-- The lines of a text, one after the other. Assumes nothing.
use mathlib.Core.Path.{◌≡◌, refl, sym, ◌∙◌, ap}
use mathlib.Core.Bool.{Bool, true, false, cond}
use mathlib.Core.List.{List, [], ◌∷◌}
use Prim.Native.Nat.{ℕ, suc, ◌+◌, ◌≤◌, ◌<◌}
use native.Mathlib.Omega.{arith}
use lib.ListN.{length, get_or, take, drop, drop_of_length-le}
use lib.Seq.{take_all}
use Rattle.std.specs.Iterator.{YieldsFirstRef}
use Rattle.std.specs.List.{enumerate_from, prefix_len}
use Rattle.std.proofs.lemmas.Iterator.{YieldsList}
use Rattle.std.proofs.lemmas.Iterator.Consumers.{YieldsList-from_first}
use Rattle.std.proofs.lemmas.List.Folds.{length-prefix_len}
use Rattle.std.proofs.lemmas.List.FromFn.{length-enumerate_from, get_or-enumerate_from}
use Rattle.textlines.specs.declared.reading.Lines.{Lines}
use Rattle.textlines.specs.Line.{right_line}
use Rattle.textlines.specs.Text.{lines_of, right_lines}
use Rattle.textlines.proofs.Split.{NoFeed, nothing, first_ended, whole_line, right_yes, right_no, right_none}

-- the first line ends after the first line feed
pub ended_line : (s : List ℕ) (e n : ℕ) → NoFeed s e → e < length s → get_or s e 0 ≡ 10 → n ≡ e + 1 → lines_of s ≡ take n s ∷ lines_of (drop n s)
ended_line s e n f l h after =
    let k : n ≡ suc e = omega arith in
    rw k (first_ended s e f l h)

-- a text without one is its last line
pub unended_line : (s : List ℕ) (e n : ℕ) → NoFeed s e → length s ≤ e → 0 < length s → n ≡ length s → lines_of s ≡ take n s ∷ lines_of (drop n s)
unended_line s e n f far l all =
    let whole : length s ≤ n = omega arith in
    rw (take_all n s whole, drop_of_length-le s whole, nothing) (whole_line s l (λ k m. f k (omega arith)))

-- the lines come one by one
pub yields_lines : {s : Lines} (xs : List ℕ) → s.rest.now ≡ xs → YieldsList (YieldsFirstRef (λ l. lines_of l.rest.now)) (λ x. x.now) s (lines_of xs)
yields_lines xs e = YieldsList-from_first (λ x. x.now) (λ l. lines_of l.rest.now) (lines_of xs) (ap lines_of e)

-- ---- the lines in turn

-- the lines before the first that is not of the form
pub right_first : (ls : List (List ℕ)) → length (take (prefix_len right_line ls) ls) ≡ right_lines ls
right_first ls = length-prefix_len right_line ls ∙ go ls
  where
    go : (ls : List (List ℕ)) → prefix_len right_line ls ≡ right_lines ls
    go [] = sym right_none
    go (l ∷ ls) = by_line (right_line l) refl (go ls)
      where
        by_line : (b : Bool) → right_line l ≡ b → prefix_len right_line ls ≡ right_lines ls → prefix_len right_line (l ∷ ls) ≡ right_lines (l ∷ ls)
        by_line true e more =
            let one : 1 + prefix_len right_line ls ≡ suc (right_lines ls) = omega (arith, more) in
            ap (λ (b : Bool). cond b (1 + prefix_len right_line ls) 0) e ∙ (one ∙ sym (right_yes l ls e))
        by_line false e more = ap (λ (b : Bool). cond b (1 + prefix_len right_line ls) 0) e ∙ sym (right_no l ls e)

-- a line with its number, from 0
pub numbered : (ls : List (List ℕ)) (k i : ℕ) (l : List ℕ) → k < length (enumerate_from 0 ls) → ◌≡◌ {A = ℕ × List ℕ} (i, l) (get_or (enumerate_from 0 ls) k (i, l))
    → (k < length ls) × (i ≡ k) × (l ≡ get_or ls k l)
numbered ls k i l h e =
    let below : k < length ls = omega (arith, length-enumerate_from 0 ls) in
    let pair : ◌≡◌ {A = ℕ × List ℕ} (i, l) (0 + k, get_or ls k l) = e ∙ get_or-enumerate_from 0 ls k (i, l) below in
    let number : i ≡ 0 + k = ap (λ (p : ℕ × List ℕ). p.0) pair in
    (below, omega arith, ap (λ (p : ℕ × List ℕ). p.1) pair)
