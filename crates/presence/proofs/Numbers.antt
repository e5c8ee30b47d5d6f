-- The log as it is kept, 13 numbers to a day, and the days that they stand for. Assumes nothing.
use Prim.Native.Nat.{ℕ, zero, suc, ◌+◌, ◌-◌, ◌*◌, ◌/◌, ◌%◌, ◌≤◌, ◌<◌}
use mathlib.Core.Path.{◌≡◌, refl, sym, ◌∙◌, ap}
use mathlib.Core.Bool.{Bool, true, false, cond}
use mathlib.Core.List.{List, [], ◌∷◌, ◌++◌}
use native.Mathlib.Nat.{add_assoc}
use native.Mathlib.Omega.{arith}
use lib.Dec.{eqb, leb, lit≤}
use borrow.Author.Tests.{leb-true, le-leb}
use lib.ListN.{get_or, drop, take, length, length-drop, replicate}
use lib.Seq.{get_or-take, get_or-drop, drop-drop, take-nil, take-add, take_all, length-take-le}
use Rattle.tariff.specs.Units.{each}
use Rattle.tariff.proofs.Tests.{and_left, and_right, and_both}
use Rattle.presence.specs.declared.Day.{Day}
use Rattle.presence.specs.Day.{empty_day, joined}
use Rattle.presence.specs.Log.{numbers_of, day_from, days_first, days_of, logged_with, marks_proper, numbers_all}

-- a day's numbers stand for the day
pub day_back : (d : Day) (xs : List ℕ) → day_from (numbers_of d ++ xs) ≡ d
unfolding day_from numbers_of
day_back d xs = go d.home d.zone d.elsewhere refl refl refl
  where
    go : (h z e : Bool) → d.home ≡ h → d.zone ≡ z → d.elsewhere ≡ e → day_from (numbers_of d ++ xs) ≡ d
    go true true true p q r = rw (p, q, r) refl
    go true true false p q r = rw (p, q, r) refl
    go true false true p q r = rw (p, q, r) refl
    go true false false p q r = rw (p, q, r) refl
    go false true true p q r = rw (p, q, r) refl
    go false true false p q r = rw (p, q, r) refl
    go false false true p q r = rw (p, q, r) refl
    go false false false p q r = rw (p, q, r) refl

-- the days that a log stands for are 123
count_days : (n : ℕ) (xs : List ℕ) → length (days_first n xs) ≡ n
unfolding days_first
count_days zero xs = refl
count_days (suc n) xs = ap suc (count_days n (drop 13 xs))

pub all_days : (xs : List ℕ) → length (days_of xs) ≡ 123
unfolding days_of
all_days xs = count_days 123 xs

day_in : (n i : ℕ) (xs : List ℕ) → i < n → get_or (days_first n xs) i empty_day ≡ day_from (drop (13 * i) xs)
unfolding days_first
day_in zero i xs h = absurd (omega arith)
day_in (suc n) zero xs h = refl
day_in (suc n) (suc i) xs h =
    let e : 13 + 13 * i ≡ 13 * suc i = omega arith in
    day_in n i (drop 13 xs) (omega arith) ∙ ap day_from (drop-drop (13 * i) 13 xs ∙ ap (λ (k : ℕ). drop k xs) e)

-- days that stand before the cut are as they were
from_take : (m : ℕ) (xs : List ℕ) → 13 ≤ m → day_from (take m xs) ≡ day_from xs
unfolding day_from
from_take m xs h =
    rw
    (get_or-take m xs 0 0 (omega arith), get_or-take m xs 1 0 (omega arith), get_or-take m xs 2 0 (omega arith), get_or-take m xs 3 0 (omega arith), get_or-take m xs 4 0 (omega arith), get_or-take m xs 5 0 (omega arith), get_or-take m xs 6 0 (omega arith), get_or-take m xs 7 0 (omega arith), get_or-take m xs 8 0 (omega arith), get_or-take m xs 9 0 (omega arith), get_or-take m xs 10 0 (omega arith), get_or-take m xs 11 0 (omega arith), get_or-take m xs 12 0 (omega arith))
    refl

drop-take : (k m : ℕ) (xs : List ℕ) → drop k (take m xs) ≡ take (m - k) (drop k xs)
drop-take zero m xs = let e : m ≡ m - 0 = omega arith in ap (λ (j : ℕ). take j xs) e
drop-take (suc k) zero xs = let e : 0 - suc k ≡ 0 = omega arith in rw e refl
drop-take (suc k) (suc m) [] = sym (take-nil (suc m - suc k))
drop-take (suc k) (suc m) (x ∷ xs) =
    let e : m - k ≡ suc m - suc k = omega arith in
    drop-take k m xs ∙ ap (λ (j : ℕ). take j (drop k xs)) e

days-take : (n m : ℕ) (xs : List ℕ) → 13 * n ≤ m → days_first n (take m xs) ≡ days_first n xs
unfolding days_first
days-take zero m xs h = refl
days-take (suc n) m xs h = rw (from_take m xs (omega arith), drop-take 13 m xs, days-take n (m - 13) (drop 13 xs) (omega arith)) refl

days_front : (n m : ℕ) (xs : List ℕ) → n ≤ m → take n (days_first m xs) ≡ days_first n xs
unfolding days_first
days_front zero m xs h = refl
days_front (suc n) zero xs h = absurd (omega arith)
days_front (suc n) (suc m) xs h = ap (λ (l : List Day). day_from xs ∷ l) (days_front n m (drop 13 xs) (omega arith))

pub days_past : (n m : ℕ) (xs : List ℕ) → n ≤ m → drop n (days_first m xs) ≡ days_first (m - n) (drop (13 * n) xs)
unfolding days_first
days_past zero m xs h = let e : m ≡ m - 0 = omega arith in ap (λ (k : ℕ). days_first k xs) e
days_past (suc n) zero xs h = absurd (omega arith)
days_past (suc n) (suc m) xs h =
    let e : m - n ≡ suc m - suc n = omega arith in
    let k : 13 + 13 * n ≡ 13 * suc n = omega arith in
    days_past n m (drop 13 xs) (omega arith) ∙ rw (drop-drop (13 * n) 13 xs, k, e) refl

-- a day that joins the numbers joins the days
pub days_joined : (d : Day) (xs : List ℕ) → days_of (logged_with d xs) ≡ joined d (days_of xs)
unfolding days_of logged_with joined days_first numbers_of
days_joined d xs =
    days-take 123 1599 (numbers_of d ++ xs) (lit≤ tt)
    ∙ rw (day_back d xs) (ap (λ (l : List Day). d ∷ l) (sym (days_front 122 123 xs (lit≤ tt))))

pub days_empty : days_of (replicate 1599 0) ≡ replicate 123 empty_day
unfolding days_of days_first day_from
days_empty = refl

at_place : (i k m : ℕ) (xs : List ℕ) → 13 * i + k ≡ m → get_or (drop (13 * i) xs) k 0 ≡ get_or xs m 0
at_place i k m xs e = get_or-drop (13 * i) xs k 0 ∙ ap (λ (j : ℕ). get_or xs j 0) e

pub day_placed : (i : ℕ) (xs : List ℕ) → i < 123 → day_from (drop (13 * i) xs) ≡ get_or (days_of xs) i empty_day
unfolding days_of
day_placed i xs h = sym (day_in 123 i xs h)

-- what is read at day i's places is day i
pub day_at_is : (i : ℕ) (xs : List ℕ) → i < 123 → get_or (days_of xs) i empty_day ≡ record {
  home = eqb (get_or xs (13 * i) 0 % 2) 1;
  zone = eqb (get_or xs (13 * i) 0 / 2 % 2) 1;
  elsewhere = eqb (get_or xs (13 * i) 0 / 4 % 2) 1;
  athome = each (get_or xs (13 * i + 1) 0) (get_or xs (13 * i + 1 + 1) 0) (get_or xs (13 * i + 1 + 2) 0) (get_or xs (13 * i + 1 + 3) 0);
  inzone = each (get_or xs (13 * i + 5) 0) (get_or xs (13 * i + 5 + 1) 0) (get_or xs (13 * i + 5 + 2) 0) (get_or xs (13 * i + 5 + 3) 0);
  outside = each (get_or xs (13 * i + 9) 0) (get_or xs (13 * i + 9 + 1) 0) (get_or xs (13 * i + 9 + 2) 0) (get_or xs (13 * i + 9 + 3) 0);
}
unfolding days_of day_from
day_at_is i xs h =
    day_in 123 i xs h
    ∙ rw
    (at_place i 0 (13 * i) xs (omega arith), at_place i 1 (13 * i + 1) xs refl, at_place i 2 (13 * i + 1 + 1) xs (sym (add_assoc (13 * i) 1 1)), at_place i 3 (13 * i + 1 + 2) xs (sym (add_assoc (13 * i) 1 2)), at_place i 4 (13 * i + 1 + 3) xs (sym (add_assoc (13 * i) 1 3)), at_place i 5 (13 * i + 5) xs refl, at_place i 6 (13 * i + 5 + 1) xs (sym (add_assoc (13 * i) 5 1)), at_place i 7 (13 * i + 5 + 2) xs (sym (add_assoc (13 * i) 5 2)), at_place i 8 (13 * i + 5 + 3) xs (sym (add_assoc (13 * i) 5 3)), at_place i 9 (13 * i + 9) xs refl, at_place i 10 (13 * i + 9 + 1) xs (sym (add_assoc (13 * i) 9 1)), at_place i 11 (13 * i + 9 + 2) xs (sym (add_assoc (13 * i) 9 2)), at_place i 12 (13 * i + 9 + 3) xs (sym (add_assoc (13 * i) 9 3)))
    refl

-- the log keeps its size
pub logged_size : (d : Day) (xs : List ℕ) → length xs ≡ 1599 → length (logged_with d xs) ≡ 1599
unfolding logged_with numbers_of
logged_size d xs h = length-take-le 1599 (numbers_of d ++ xs) (rw h (lit≤ tt))

-- proper marks: those of each day are a number up to 7
pub marks_each : (n i : ℕ) (xs : List ℕ) → marks_proper n xs ≡ true → i < n → get_or xs (13 * i) 0 ≤ 7
unfolding marks_proper
marks_each zero i xs e h = absurd (omega arith)
marks_each (suc n) zero xs e h = leb-true _ _ (and_left (leb (get_or xs 0 0) 7) _ e)
marks_each (suc n) (suc i) xs e h =
    let k : 13 + 13 * i ≡ 13 * suc i = omega arith in
    rw (← k, ← get_or-drop 13 xs (13 * i) 0) (marks_each n i (drop 13 xs) (and_right (leb (get_or xs 0 0) 7) _ e) (omega arith))

pub marks_all : (n : ℕ) (xs : List ℕ) → ((i : ℕ) → i < n → get_or xs (13 * i) 0 ≤ 7) → marks_proper n xs ≡ true
unfolding marks_proper
marks_all zero xs h = refl
marks_all (suc n) xs h = and_both _ _ (le-leb _ _ (h 0 (omega arith))) (marks_all n (drop 13 xs) later)
  where
    later : (i : ℕ) → i < n → get_or (drop 13 xs) (13 * i) 0 ≤ 7
    later i l = let k : 13 + 13 * i ≡ 13 * suc i = omega arith in
        rw (get_or-drop 13 xs (13 * i) 0, k) (h (suc i) (omega arith))

marks-take : (n m : ℕ) (xs : List ℕ) → 13 * n ≤ m → marks_proper n (take m xs) ≡ marks_proper n xs
unfolding marks_proper
marks-take zero m xs h = refl
marks-take (suc n) m xs h = rw (get_or-take m xs 0 0 (omega arith), drop-take 13 m xs, marks-take n (m - 13) (drop 13 xs) (omega arith)) refl

marks_fewer : (n : ℕ) (xs : List ℕ) → marks_proper (suc n) xs ≡ true → marks_proper n xs ≡ true
unfolding marks_proper
marks_fewer zero xs e = refl
marks_fewer (suc n) xs e =
    let t = leb (get_or xs 0 0) 7 in
    rw (and_left t _ e) (marks_fewer n (drop 13 xs) (and_right t _ e))

pub number_proper : (h z e : Bool) → leb (cond h 1 0 + 2 * cond z 1 0 + 4 * cond e 1 0) 7 ≡ true
number_proper true true true = refl
number_proper true true false = refl
number_proper true false true = refl
number_proper true false false = refl
number_proper false true true = refl
number_proper false true false = refl
number_proper false false true = refl
number_proper false false false = refl

-- marks stay proper as a day joins, and an empty log's are
pub marks_joined : (d : Day) (xs : List ℕ) → marks_proper 123 xs ≡ true → marks_proper 123 (logged_with d xs) ≡ true
unfolding logged_with numbers_of
marks_joined d xs e =
    marks-take 123 1599 (numbers_of d ++ xs) (lit≤ tt)
    ∙ unfold marks_proper in rw (number_proper d.home d.zone d.elsewhere) (marks_fewer 122 xs e)

pub marks_empty : marks_proper 123 (replicate 1599 0) ≡ true
unfolding marks_proper
marks_empty = refl

-- proper marks are told by the three marks
marks_back : (m : ℕ) → m ≤ 7 → cond (eqb (m % 2) 1) 1 0 + 2 * cond (eqb (m / 2 % 2) 1) 1 0 + 4 * cond (eqb (m / 4 % 2) 1) 1 0 ≡ m
marks_back zero h = refl
marks_back (suc zero) h = refl
marks_back (suc (suc zero)) h = refl
marks_back (suc (suc (suc zero))) h = refl
marks_back (suc (suc (suc (suc zero)))) h = refl
marks_back (suc (suc (suc (suc (suc zero))))) h = refl
marks_back (suc (suc (suc (suc (suc (suc zero)))))) h = refl
marks_back (suc (suc (suc (suc (suc (suc (suc zero))))))) h = refl
marks_back (suc (suc (suc (suc (suc (suc (suc (suc m)))))))) h = absurd (omega arith)

-- where marks are proper, each of a day's 13 numbers is the day's
number_in : (r : ℕ) (xs : List ℕ) → r < 13 → get_or xs 0 0 ≤ 7 → get_or xs r 0 ≡ get_or (numbers_of (day_from xs)) r 0
unfolding numbers_of day_from
number_in zero xs l h = sym (marks_back (get_or xs 0 0) h)
number_in (suc zero) xs l h = refl
number_in (suc (suc zero)) xs l h = refl
number_in (suc (suc (suc zero))) xs l h = refl
number_in (suc (suc (suc (suc zero)))) xs l h = refl
number_in (suc (suc (suc (suc (suc zero))))) xs l h = refl
number_in (suc (suc (suc (suc (suc (suc zero)))))) xs l h = refl
number_in (suc (suc (suc (suc (suc (suc (suc zero))))))) xs l h = refl
number_in (suc (suc (suc (suc (suc (suc (suc (suc zero)))))))) xs l h = refl
number_in (suc (suc (suc (suc (suc (suc (suc (suc (suc zero))))))))) xs l h = refl
number_in (suc (suc (suc (suc (suc (suc (suc (suc (suc (suc zero)))))))))) xs l h = refl
number_in (suc (suc (suc (suc (suc (suc (suc (suc (suc (suc (suc zero))))))))))) xs l h = refl
number_in (suc (suc (suc (suc (suc (suc (suc (suc (suc (suc (suc (suc zero)))))))))))) xs l h = refl
number_in (suc (suc (suc (suc (suc (suc (suc (suc (suc (suc (suc (suc (suc r))))))))))))) xs l h = absurd (omega arith)

pub number_at : (i r : ℕ) (xs : List ℕ) → i < 123 → r < 13 → get_or xs (13 * i) 0 ≤ 7 → get_or xs (13 * i + r) 0 ≡ get_or (numbers_of (get_or (days_of xs) i empty_day)) r 0
unfolding days_of
number_at i r xs l m h =
    let p : get_or (drop (13 * i) xs) 0 0 ≤ 7 = rw (at_place i 0 (13 * i) xs (omega arith)) h in
    sym (at_place i r (13 * i + r) xs refl) ∙ number_in r (drop (13 * i) xs) m p
    ∙ ap (λ (d : Day). get_or (numbers_of d) r 0) (sym (day_in 123 i xs l))

front_back : (xs : List ℕ) → 13 ≤ length xs → get_or xs 0 0 ≤ 7 → numbers_of (day_from xs) ≡ take 13 xs
unfolding numbers_of day_from
front_back [] q p = absurd (omega arith)
front_back (a ∷ []) q p = absurd (omega arith)
front_back (a ∷ b ∷ []) q p = absurd (omega arith)
front_back (a ∷ b ∷ c ∷ []) q p = absurd (omega arith)
front_back (a ∷ b ∷ c ∷ d ∷ []) q p = absurd (omega arith)
front_back (a ∷ b ∷ c ∷ d ∷ e ∷ []) q p = absurd (omega arith)
front_back (a ∷ b ∷ c ∷ d ∷ e ∷ f ∷ []) q p = absurd (omega arith)
front_back (a ∷ b ∷ c ∷ d ∷ e ∷ f ∷ g ∷ []) q p = absurd (omega arith)
front_back (a ∷ b ∷ c ∷ d ∷ e ∷ f ∷ g ∷ h ∷ []) q p = absurd (omega arith)
front_back (a ∷ b ∷ c ∷ d ∷ e ∷ f ∷ g ∷ h ∷ i ∷ []) q p = absurd (omega arith)
front_back (a ∷ b ∷ c ∷ d ∷ e ∷ f ∷ g ∷ h ∷ i ∷ j ∷ []) q p = absurd (omega arith)
front_back (a ∷ b ∷ c ∷ d ∷ e ∷ f ∷ g ∷ h ∷ i ∷ j ∷ k ∷ []) q p = absurd (omega arith)
front_back (a ∷ b ∷ c ∷ d ∷ e ∷ f ∷ g ∷ h ∷ i ∷ j ∷ k ∷ l ∷ []) q p = absurd (omega arith)
front_back (a ∷ b ∷ c ∷ d ∷ e ∷ f ∷ g ∷ h ∷ i ∷ j ∷ k ∷ l ∷ m ∷ xs) q p = ap (λ (n : ℕ). n ∷ b ∷ c ∷ d ∷ e ∷ f ∷ g ∷ h ∷ i ∷ j ∷ k ∷ l ∷ m ∷ []) (marks_back a p)

first_back : (n : ℕ) (xs : List ℕ) → 13 * n ≤ length xs → marks_proper n xs ≡ true → numbers_all (days_first n xs) ≡ take (13 * n) xs
unfolding numbers_all days_first marks_proper
first_back zero xs h e = refl
first_back (suc n) xs h e =
    let t = leb (get_or xs 0 0) 7 in
    let k : 13 * suc n ≡ 13 + 13 * n = omega arith in
    let l : 13 * n ≤ length (drop 13 xs) = omega (arith, length-drop 13 xs) in
    rw
    (k, front_back xs (omega arith) (leb-true _ _ (and_left t _ e)), first_back n (drop 13 xs) l (and_right t _ e))
    (sym (take-add 13 (13 * n) xs))

-- where marks are proper, the numbers are those of the days: so no two such logs stand for the same days
pub numbers_back : (xs : List ℕ) → length xs ≡ 1599 → marks_proper 123 xs ≡ true → numbers_all (days_of xs) ≡ xs
unfolding days_of
numbers_back xs h e = first_back 123 xs (omega (arith, h)) e ∙ take_all 1599 xs (omega (arith, h))
