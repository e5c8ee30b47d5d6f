-- One line: the call that it is read as is the one that it was written from, and what the code finds in a line. Assumes
-- nothing.
use mathlib.Core.Path.{◌≡◌, refl, sym, ◌∙◌, ap}
use mathlib.Core.Bool.{Bool, true, false, ◌&&◌}
use mathlib.Core.List.{List, [], ◌∷◌, ◌++◌, append_assoc}
use Prim.Native.Nat.{ℕ, zero, suc, ◌+◌, ◌-◌, ◌≤◌, ◌<◌, min}
use native.Mathlib.Omega.{arith}
use lib.ListN.{length, get_or, take, drop, length-append, length-drop, take-append-drop}
use lib.Seq.{take_at, take_all, take-suc, drop_at, get_or-drop, get_or-append_seam}
use lib.Dec.{eqb, leb}
use borrow.Author.Tests.{eqb-true, eq-eqb, ne_eqb, leb-true}
use Rattle.tariff.proofs.Tests.{bool_ext, and_left, and_right, and_both}
use Rattle.tripfile.specs.Bodies.{Call, call, call_right}
use Rattle.text.specs.Text.{decimal}
use Rattle.text.specs.Claims.{read_on}
use Rattle.text.specs.Reading.{all_digits, spelled}
use Rattle.text.proofs.Decimals.{reads_back, spelled_back, spelled_again, digits_alone}
use Rattle.textlines.specs.Line.{name, heading, line, code_in, digits_in, number_in, call_in, same_list, right_line, framed_as}

-- ---- the same bytes

same_refl : (xs : List ℕ) → same_list xs xs ≡ true
unfolding same_list
same_refl [] = refl
same_refl (x ∷ xs) = and_both (eqb x x) (same_list xs xs) (eq-eqb x x refl) (same_refl xs)

same_true : (xs ys : List ℕ) → same_list xs ys ≡ true → xs ≡ ys
unfolding same_list
same_true [] [] h = refl
same_true [] (y ∷ ys) h = cc
same_true (x ∷ xs) [] h = cc
same_true (x ∷ xs) (y ∷ ys) h =
    let e = eqb-true x y (and_left (eqb x y) (same_list xs ys) h) in
    let t = same_true xs ys (and_right (eqb x y) (same_list xs ys) h) in
    rw (e, t)

-- ---- from the call to the line and back

pub code_range : (c : Call) → call_right c ≡ true → (1 ≤ c.code) × (c.code ≤ 7)
unfolding call_right
code_range c h =
    let both = and_left _ _ (and_left _ _ h) in (
      leb-true 1 c.code (and_left (leb 1 c.code) (leb c.code 7) both),
      leb-true c.code 7 (and_right (leb 1 c.code) (leb c.code 7) both),
    )

code_back : (c : ℕ) (r : List ℕ) → 1 ≤ c → c ≤ 7 → code_in (heading c ++ r) ≡ c
unfolding code_in heading name
code_back zero r l m = absurd (omega arith)
code_back (suc zero) r l m = refl
code_back (suc (suc zero)) r l m = refl
code_back (suc (suc (suc zero))) r l m = refl
code_back (suc (suc (suc (suc zero)))) r l m = refl
code_back (suc (suc (suc (suc (suc zero))))) r l m = refl
code_back (suc (suc (suc (suc (suc (suc zero)))))) r l m = refl
code_back (suc (suc (suc (suc (suc (suc (suc zero))))))) r l m = refl
code_back (suc (suc (suc (suc (suc (suc (suc (suc c)))))))) r l m = absurd (omega arith)

-- what stands between the comma and the last byte
digits_back : (c : ℕ) (ds : List ℕ) (b : ℕ) → digits_in c (heading c ++ (ds ++ (b ∷ []))) ≡ ds
unfolding digits_in
digits_back c ds b =
    let h = heading c in
    let long : length (h ++ (ds ++ (b ∷ []))) - 1 - length h ≡ length ds =
    omega (arith, length-append h (ds ++ (b ∷ [])), length-append ds (b ∷ [])) in
    rw (drop_at h (ds ++ (b ∷ [])) (length h) refl) (take_at ds (b ∷ []) _ (sym long))

line_digits : (c n : ℕ) → digits_in c (line (call c n)) ≡ decimal n
unfolding line
line_digits c n = digits_back c (decimal n) 10

number_back : (c n : ℕ) → n ≤ 4294967295 → number_in c (line (call c n)) ≡ n
unfolding number_in
number_back c n h =
    let e : read_on 0 (digits_in c (line (call c n))) ≡ n = ap (read_on 0) (line_digits c n) ∙ (reads_back n).number in
    omega arith

pub both : {c d n m : ℕ} → c ≡ d → n ≡ m → call c n ≡ call d m
both e f = λ i. record { code = e i; number = f i }

pub call_is : (s : List ℕ) → call (code_in s) (number_in (code_in s) s) ≡ call_in s
unfolding call_in
call_is s = refl

pub call_back : (c : Call) → call_right c ≡ true → c.number ≤ 4294967295 → call_in (line c) ≡ c
call_back c h l =
    let r = code_range c h in
    let e : code_in (line c) ≡ c.code = unfold line in code_back c.code _ r.0 r.1 in
    let n : number_in (code_in (line c)) (line c) ≡ c.number =
    ap (λ (k : ℕ). number_in k (line c)) e ∙ number_back c.code c.number l in
    sym (call_is (line c)) ∙ both e n

-- a line of the form is the line of the call that it is read as; and the line of a call that has one is of the form
pub line_back : (l : List ℕ) → right_line l ≡ true → l ≡ line (call_in l)
unfolding right_line
line_back l h = same_true l (line (call_in l)) (and_right (call_right (call_in l)) (same_list l (line (call_in l))) h)

pub call_of_right : (l : List ℕ) → right_line l ≡ true → call_right (call_in l) ≡ true
unfolding right_line
call_of_right l h = and_left (call_right (call_in l)) (same_list l (line (call_in l))) h

right_from : (l : List ℕ) → call_right (call_in l) ≡ true → l ≡ line (call_in l) → right_line l ≡ true
unfolding right_line
right_from l h e =
    and_both (call_right (call_in l)) (same_list l (line (call_in l))) h (ap (same_list l) (sym e) ∙ same_refl l)

pub right_back : (c : Call) → call_right c ≡ true → c.number ≤ 4294967295 → right_line (line c) ≡ true
right_back c h l =
    let e = call_back c h l in
    right_from (line c) (ap call_right e ∙ h) (ap line (sym e))

pub number_held : (l : List ℕ) → (call_in l).number ≤ 4294967295
unfolding call_in number_in
number_held l = omega arith

-- ---- its only line feed is its last byte

pub data Free : List ℕ → Type 0 where
  none : Free []
  more : {b : ℕ} {bs : List ℕ} → eqb b 10 ≡ false → Free bs → Free (b ∷ bs)

free_append : {xs ys : List ℕ} → Free xs → Free ys → Free (xs ++ ys)
free_append none g = g
free_append (more e h) g = more e (free_append h g)

free_digits : (ds : List ℕ) → all_digits ds ≡ true → Free ds
unfolding all_digits
free_digits [] h = none
free_digits (d ∷ ds) h =
    let b = and_left (leb 48 d && leb d 57) (all_digits ds) h in
    let l = leb-true 48 d (and_left (leb 48 d) (leb d 57) b) in
    more (ne_eqb d 10 (λ e. omega arith)) (free_digits ds (and_right (leb 48 d && leb d 57) (all_digits ds) h))

free_heading : (c : ℕ) → Free (heading c)
unfolding heading name
free_heading zero = more refl none
free_heading (suc zero) = more refl (more refl (more refl (more refl (more refl (more refl (more refl (more refl (more refl none))))))))
free_heading (suc (suc zero)) = more refl (more refl (more refl (more refl (more refl none))))
free_heading (suc (suc (suc zero))) = more refl (more refl (more refl (more refl none)))
free_heading (suc (suc (suc (suc zero)))) = more refl (more refl (more refl none))
free_heading (suc (suc (suc (suc (suc zero))))) = more refl (more refl (more refl (more refl none)))
free_heading (suc (suc (suc (suc (suc (suc zero)))))) = more refl (more refl (more refl (more refl (more refl (more refl none)))))
free_heading (suc (suc (suc (suc (suc (suc (suc zero))))))) =
    more refl (more refl (more refl (more refl (more refl (more refl (more refl (more refl none)))))))
free_heading (suc (suc (suc (suc (suc (suc (suc (suc c)))))))) = more refl none

-- a heading has at most 9 bytes
pub heading_few : (c : ℕ) → length (heading c) ≤ 9
unfolding heading name
heading_few zero = omega arith
heading_few (suc zero) = omega arith
heading_few (suc (suc zero)) = omega arith
heading_few (suc (suc (suc zero))) = omega arith
heading_few (suc (suc (suc (suc zero)))) = omega arith
heading_few (suc (suc (suc (suc (suc zero))))) = omega arith
heading_few (suc (suc (suc (suc (suc (suc zero)))))) = omega arith
heading_few (suc (suc (suc (suc (suc (suc (suc zero))))))) = omega arith
heading_few (suc (suc (suc (suc (suc (suc (suc (suc c)))))))) = omega arith

-- all of a line but its line feed
abbrev pub body : Call → List ℕ
body c = heading c.code ++ decimal c.number

pub free_body : (c : Call) → Free (body c)
free_body c = free_append (free_heading c.code) (free_digits (decimal c.number) (digits_alone c.number))

pub line_is : (c : Call) → line c ≡ body c ++ (10 ∷ [])
unfolding line
line_is c = sym (append_assoc (heading c.code) (decimal c.number) (10 ∷ []))

pub line_long : (c : Call) → length (line c) ≡ length (heading c.code) + length (decimal c.number) + 1
unfolding line
line_long c =
    length-append (heading c.code) (decimal c.number ++ (10 ∷ []))
    ∙ omega (arith, length-append (decimal c.number) (10 ∷ []))

-- ---- what the code finds

-- the part of a line between comma and line feed, where there is one
pub no_digits : (c : ℕ) (l : List ℕ) → length l ≤ length (heading c) → digits_in c l ≡ []
unfolding digits_in
no_digits c l h =
    let e : length l - 1 - length (heading c) ≡ 0 = omega arith in
    ap (λ (k : ℕ). take k (drop (length (heading c)) l)) e

-- a line that is longer than a heading: its parts
parted : (l : List ℕ) (c : ℕ) → length (heading c) < length l
    → l ≡ take (length (heading c)) l ++ (digits_in c l ++ (get_or l (length l - 1) 0 ∷ []))
unfolding digits_in
parted l c h =
    let k = length (heading c) in
    let m = length l - 1 - k in
    let d = drop k l in
    let long : length d ≡ suc m = length-drop k l ∙ omega arith in
    let place : k + m ≡ length l - 1 = omega arith in
    let last : get_or d m 0 ≡ get_or l (length l - 1) 0 = get_or-drop k l m 0 ∙ ap (λ (i : ℕ). get_or l i 0) place in
    let whole : take (suc m) d ≡ d = take_all (suc m) d (omega arith) in
    sym (take-append-drop k l)
    ∙ ap (λ (x : List ℕ). take k l ++ x) (sym whole ∙ (take-suc d m 0 (omega arith) ∙ ap (λ (x : ℕ). take m d ++ (x ∷ [])) last))

pub framed_yes : (l : List ℕ) (c : ℕ) → length (heading c) < length l → take (length (heading c)) l ≡ heading c
    → get_or l (length l - 1) 0 ≡ 10 → l ≡ framed_as c l
unfolding framed_as
framed_yes l c h e f =
    parted l c h
    ∙ (ap (λ (x : List ℕ). x ++ (digits_in c l ++ (get_or l (length l - 1) 0 ∷ []))) e
    ∙ ap (λ (x : ℕ). heading c ++ (digits_in c l ++ (x ∷ []))) f)

pub framed_long : (l : List ℕ) (c : ℕ) → l ≡ framed_as c l → length (heading c) < length l
unfolding framed_as
framed_long l c e =
    omega (arith, ap length e, length-append (heading c) (digits_in c l ++ (10 ∷ [])), length-append (digits_in c l) (10 ∷ []))

pub framed_head : (l : List ℕ) (c : ℕ) → l ≡ framed_as c l → take (length (heading c)) l ≡ heading c
unfolding framed_as
framed_head l c e =
    ap (take (length (heading c))) e ∙ take_at (heading c) (digits_in c l ++ (10 ∷ [])) (length (heading c)) refl

pub framed_last : (l : List ℕ) (c : ℕ) → l ≡ framed_as c l → get_or l (length l - 1) 0 ≡ 10
unfolding framed_as
framed_last l c e =
    let p = heading c ++ digits_in c l in
    let f : l ≡ p ++ (10 ∷ []) = e ∙ sym (append_assoc (heading c) (digits_in c l) (10 ∷ [])) in
    let n : length l - 1 ≡ length p = omega (arith, ap length f, length-append p (10 ∷ [])) in
    ap (λ (i : ℕ). get_or l i 0) n ∙ (ap (λ (x : List ℕ). get_or x (length p) 0) f ∙ get_or-append_seam p 10 [] 0)

-- ---- a line is of the form exactly if it is framed, its digits are a number's text, and code and number are right

module _ (s : List ℕ) where
  abbrev bytes : List ℕ
  bytes = digits_in (code_in s) s

  read_is : read_on 0 bytes ≤ 4294967295 → call (code_in s) (read_on 0 bytes) ≡ call_in s
  unfolding number_in
  read_is h =
      let n : read_on 0 bytes ≡ number_in (code_in s) s = omega arith in
      both {c = code_in s} refl n ∙ call_is s

  form_yes : s ≡ framed_as (code_in s) s → spelled bytes ≡ true → read_on 0 bytes ≤ 4294967295
      → call_right (call (code_in s) (read_on 0 bytes)) ≡ true → right_line s ≡ true
  unfolding framed_as line
  form_yes f d l r =
      let e : s ≡ line (call (code_in s) (read_on 0 bytes)) =
      f ∙ ap (λ (x : List ℕ). heading (code_in s) ++ (x ++ (10 ∷ []))) (sym (spelled_again bytes d)) in
      right_from s (ap call_right (sym (read_is l)) ∙ r) (e ∙ ap line (read_is l))

  -- and the other way round
  line_here : right_line s ≡ true → s ≡ line (call (code_in s) (number_in (code_in s) s))
  line_here h = line_back s h ∙ ap line (sym (call_is s))

  digits_here : right_line s ≡ true → bytes ≡ decimal (number_in (code_in s) s)
  digits_here h =
      ap (digits_in (code_in s)) (line_here h) ∙ line_digits (code_in s) (number_in (code_in s) s)

  read_here : right_line s ≡ true → read_on 0 bytes ≡ number_in (code_in s) s
  read_here h = ap (read_on 0) (digits_here h) ∙ (reads_back (number_in (code_in s) s)).number

  form_framed : right_line s ≡ true → s ≡ framed_as (code_in s) s
  unfolding framed_as line
  form_framed h =
      line_here h ∙ ap (λ (x : List ℕ). heading (code_in s) ++ (x ++ (10 ∷ []))) (sym (digits_here h))

  form_spelled : right_line s ≡ true → spelled bytes ≡ true
  form_spelled h = ap spelled (digits_here h) ∙ spelled_back (number_in (code_in s) s)

  form_word : right_line s ≡ true → read_on 0 bytes ≤ 4294967295
  unfolding number_in
  form_word h = omega (arith, read_here h)

  form_right : right_line s ≡ true → call_right (call (code_in s) (read_on 0 bytes)) ≡ true
  form_right h = ap call_right (read_is (form_word h)) ∙ call_of_right s h

no_yes : (b : Bool) → (b ≡ true → ⊥) → false ≡ b
no_yes true h = absurd (h refl)
no_yes false h = refl

-- the number passes the largest word
pub not_right : (s : List ℕ) (code value : ℕ) → code ≡ code_in s → value ≡ min (read_on 0 (digits_in code s)) 4294967296
    → 4294967295 < value → false ≡ right_line s
not_right s code value ec ev l =
    let e : value ≡ min (read_on 0 (digits_in (code_in s) s)) 4294967296 =
    ev ∙ ap (λ (k : ℕ). min (read_on 0 (digits_in k s)) 4294967296) ec in
    no_yes (right_line s) (λ h. omega (arith, form_word s h))

pub right_is : (s : List ℕ) (code value : ℕ) (r d f : Bool) → code ≡ code_in s
    → value ≡ min (read_on 0 (digits_in code s)) 4294967296 → value ≤ 4294967295 → r ≡ call_right (call code value)
    → d ≡ spelled (digits_in code s) → (f ≡ true → s ≡ framed_as code s) → (s ≡ framed_as code s → f ≡ true)
    → ((r && d) && f) ≡ right_line s
right_is s code value r d f ec ev l er ed ft fs =
    let e : value ≡ read_on 0 (digits_in (code_in s) s) =
    omega (arith, ev, ap (λ (k : ℕ). read_on 0 (digits_in k s)) ec) in
    let right : r ≡ call_right (call (code_in s) (read_on 0 (digits_in (code_in s) s))) = er ∙ ap call_right (both ec e) in
    let digits : d ≡ spelled (digits_in (code_in s) s) = ed ∙ ap (λ (k : ℕ). spelled (digits_in k s)) ec in
    bool_ext ((r && d) && f) (right_line s)
    (λ h.
    form_yes s (ft (and_right (r && d) f h) ∙ ap (λ (k : ℕ). framed_as k s) ec)
    (sym digits ∙ and_right r d (and_left (r && d) f h)) (omega arith) (sym right ∙ and_left r d (and_left (r && d) f h)))
    (λ h.
    and_both (r && d) f
    (and_both r d (right ∙ form_right s h) (digits ∙ form_spelled s h))
    (fs (form_framed s h ∙ ap (λ (k : ℕ). framed_as k s) (sym ec))))
