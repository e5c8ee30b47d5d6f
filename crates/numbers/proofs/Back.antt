-- The account's numbers, there and back. Assumes nothing.
use Prim.Native.Nat.{ℕ, zero, suc, ◌+◌, ◌*◌, ◌/◌, ◌%◌, ◌≤◌}
use mathlib.Core.Path.{◌≡◌, refl, sym, ◌∙◌, ap}
use mathlib.Core.Bool.{true, cond}
use mathlib.Core.List.{List, [], ◌∷◌, ◌++◌, append-nil}
use native.Mathlib.Omega.{arith}
use lib.Dec.{eqb}
use lib.ListN.{length, get_or, take, drop, length-append, take-append-drop, drop_of_length-le}
use lib.Seq.{get_or-drop, drop-cons, take_all, take_at, drop_at, length-take-le}
use borrow.Rule.Slice.PartMut.{put_mid}
use Rattle.std.proofs.lemmas.Bool.Decides.{nat_tests}
use Rattle.tariff.specs.declared.Form.{Form}
use Rattle.tariff.specs.declared.Place.{Place}
use Rattle.tariff.specs.Plan.{form_of, form_word}
use Rattle.std.specs.Prelude.{Option}
use Rattle.presence.specs.declared.ServiceState.{ServiceState}
use Rattle.presence.specs.declared.Day.{Day}
use Rattle.presence.specs.Log.{marks_number, numbers_of, day_from}
use Rattle.presence.proofs.Numbers.{day_back}
use Rattle.state.specs.declared.State.{State}
use Rattle.account.specs.declared.Account.{Account}
use Rattle.numbers.specs.Numbers.{place_number, place_from, allowance_number, allowance_from, service_number, service_from, front_numbers, meters_numbers, quota_numbers, end_numbers, state_numbers, state_from, log_part, rest_part, account_numbers, account_from, tags_known, is_account}
use Rattle.numbers.specs.Claims.{AccountOfItsNumbers, NumbersOfTheirAccount}
use Rattle.numbers.proofs.Laid.{laid_five, laid_whole, log_length, rest_length, parts_join}

form_back : (f : Form) → form_of (form_word f) ≡ f
unfolding form_of
form_back f = grind (arith, nat_tests)

form_small : (f : Form) → form_word f ≤ 2
form_small f = grind arith

form_forth : (n : ℕ) → n ≤ 2 → form_word (form_of n) ≡ n
unfolding form_of
form_forth n h = grind (arith, nat_tests)

place_back : (w : Option Place) → place_from (place_number w) ≡ w
place_back w = grind (arith, nat_tests)

place_small : (w : Option Place) → place_number w ≤ 3
place_small w = grind arith

place_forth : (n : ℕ) → n ≤ 3 → place_number (place_from n) ≡ n
place_forth n h = grind (arith, nat_tests)

allowance_back : (l : Option ℕ) → allowance_from (allowance_number l) ≡ l
allowance_back l = grind (arith, nat_tests)

allowance_forth : (n : ℕ) → allowance_number (allowance_from n) ≡ n
allowance_forth n = grind (arith, nat_tests)

service_back : (s : ServiceState) → service_from (service_number s) ≡ s
service_back s = grind (arith, nat_tests)

service_forth : (n : ℕ) → service_number (service_from n) ≡ n
service_forth n = grind (arith, nat_tests)

marks_small : (d : Day) → marks_number d ≤ 7
marks_small d = grind (arith, nat_tests)

marks_back : (m : ℕ) → m ≤ 7 → cond (eqb (m % 2) 1) 1 0 + 2 * cond (eqb (m / 2 % 2) 1) 1 0 + 4 * cond (eqb (m / 4 % 2) 1) 1 0 ≡ m
marks_back m h = grind (arith, nat_tests)

marks_forth : (ys : List ℕ) → get_or ys 33 0 ≤ 7 → marks_number (day_from (drop 33 ys)) ≡ get_or ys 33 0
unfolding day_from
marks_forth ys h = rw (get_or-drop 33 ys 0 0) (marks_back (get_or ys 33 0) h)

-- the state of a state's numbers
state_back : (a : State) → state_from (state_numbers a) ≡ a
unfolding state_from state_numbers
state_back a = unfold numbers_of in simp (form_back, place_back, allowance_back, service_back, day_back)

pub state_length : (a : State) → length (state_numbers a) ≡ 50
unfolding state_numbers numbers_of
state_length a = refl

day_length : (d : Day) → length (numbers_of d) ≡ 13
unfolding numbers_of
day_length d = refl

-- a state's numbers, group by group behind the log
pub state_laid : (s : List ℕ) (t : State) (a b c d e u v w x y : List ℕ) → length s ≡ 1649 → a ≡ front_numbers t → b ≡ meters_numbers t.meters → c ≡ quota_numbers t.quota
    → d ≡ numbers_of t.today → e ≡ end_numbers t → u ≡ take 1599 s ++ (a ++ drop (1599 + length a) s) → v ≡ take 1612 u ++ (b ++ drop (1612 + length b) u)
    → w ≡ take 1629 v ++ (c ++ drop (1629 + length c) v) → x ≡ take 1632 w ++ (d ++ drop (1632 + length d) w) → y ≡ take 1645 x ++ (e ++ drop (1645 + length e) x)
    → y ≡ log_part s ++ state_numbers t
unfolding log_part state_numbers
state_laid s t a b c d e u v w x y h ha hb hc hd he g1 g2 g3 g4 g5 =
    let la : 1599 + length a ≡ 1612 = omega (arith, ap length ha) in
    let lb : 1612 + length b ≡ 1629 = omega (arith, ap length hb) in
    let lc : 1629 + length c ≡ 1632 = omega (arith, ap length hc) in
    let ld : 1632 + length d ≡ 1645 = omega (arith, ap length hd ∙ day_length t.today) in
    let le : 1645 + length e ≡ 1649 = omega (arith, ap length he) in
    laid_five s (take 1599 s) a b c d e u v w x y 1599 1612 1629 1632 1645 1649 (length-take-le 1599 s (omega arith)) la lb lc ld le (sym (take-append-drop 1599 s)) g1 g2 g3 g4 g5
    ∙ (ap (λ (l : List ℕ). (take 1599 s ++ (a ++ (b ++ (c ++ (d ++ e))))) ++ l) (drop_of_length-le s {i = 1649} (omega arith))
    ∙ (append-nil (take 1599 s ++ (a ++ (b ++ (c ++ (d ++ e))))) ∙ λ j. take 1599 s ++ (ha j ++ (hb j ++ (hc j ++ (hd j ++ he j))))))

-- the same, as parts put into the list
pub state_put : (s : List ℕ) (t : State) (a b c d e : List ℕ) → length s ≡ 1649 → a ≡ front_numbers t → b ≡ meters_numbers t.meters → c ≡ quota_numbers t.quota
    → d ≡ numbers_of t.today → e ≡ end_numbers t
    → put_mid 1645 4 (put_mid 1632 13 (put_mid 1629 3 (put_mid 1612 17 (put_mid 1599 13 s a) b) c) d) e ≡ log_part s ++ state_numbers t
unfolding log_part state_numbers numbers_of
state_put s t a b c d e h ha hb hc hd he =
    rw (ha, hb, hc, hd, he)
    (laid_whole s (front_numbers t) (meters_numbers t.meters) (quota_numbers t.quota) (numbers_of t.today) (end_numbers t) 1599 1612 1629 1632 1645 1649 h refl refl refl refl refl)

-- n numbers of a list, from number i on, one by one
unfoldable spelled : ℕ → ℕ → List ℕ → List ℕ
spelled zero i ys = []
spelled (suc n) i ys = get_or ys i 0 ∷ spelled n (suc i) ys

spelled_part : (n i : ℕ) (ys : List ℕ) → i + n ≤ length ys → spelled n i ys ≡ take n (drop i ys)
unfolding spelled
spelled_part zero i ys h = refl
spelled_part (suc n) i ys h = rw (drop-cons ys i 0 (omega arith)) (ap (λ (zs : List ℕ). get_or ys i 0 ∷ zs) (spelled_part n (suc i) ys (omega arith)))

-- what known tags are
record Known (ys : List ℕ) : Type 0 where
  pub form : get_or ys 0 0 ≤ 2
  pub place : get_or ys 8 0 ≤ 3
  pub marks : get_or ys 33 0 ≤ 7

known_tells : (ys : List ℕ) → tags_known ys ≡ true → Known ys
unfolding tags_known
known_tells ys h = grind (arith, nat_tests)

tags_of : (a : State) → tags_known (state_numbers a) ≡ true
unfolding tags_known state_numbers numbers_of
tags_of a = grind (arith, nat_tests, form_small, place_small, marks_small)

-- the numbers of their state
state_spelled : (ys : List ℕ) → Known ys → state_numbers (state_from ys) ≡ spelled 50 0 ys
unfolding state_numbers state_from spelled day_from numbers_of
state_spelled ys k = simp (get_or-drop, form_forth _ k.form, place_forth _ k.place, marks_back _ k.marks, allowance_forth, service_forth)

state_forth : (ys : List ℕ) → length ys ≡ 50 → Known ys → state_numbers (state_from ys) ≡ ys
state_forth ys e k = state_spelled ys k ∙ spelled_part 50 0 ys (omega arith) ∙ take_all 50 ys (omega arith)

-- an account's numbers, part by part
log_of_numbers : (a : Account) → length a.log ≡ 1599 → log_part (account_numbers a) ≡ a.log
unfolding log_part account_numbers
log_of_numbers a h = take_at a.log (state_numbers a.state) 1599 h

rest_of_numbers : (a : Account) → length a.log ≡ 1599 → rest_part (account_numbers a) ≡ state_numbers a.state
unfolding rest_part account_numbers
rest_of_numbers a h = drop_at a.log (state_numbers a.state) 1599 h

pub account_length : (xs : List ℕ) → is_account xs ≡ true → length xs ≡ 1649
unfolding is_account
account_length xs h = grind (arith, nat_tests)

account_known : (xs : List ℕ) → is_account xs ≡ true → Known (rest_part xs)
unfolding is_account
account_known xs h = known_tells (rest_part xs) (grind (arith, nat_tests))

numbers_stand : (a : Account) → length a.log ≡ 1599 → is_account (account_numbers a) ≡ true
unfolding is_account
numbers_stand a h =
    let long : length (account_numbers a) ≡ 1649 = unfold account_numbers in omega (arith, length-append a.log (state_numbers a.state), state_length a.state) in
    rw (long, rest_of_numbers a h) (tags_of a.state)

same_account : (a : Account) → length a.log ≡ 1599 → account_from (account_numbers a) ≡ a
unfolding account_from
same_account a h = simp (rest_of_numbers a h, log_of_numbers a h, state_back)

pub account_back : AccountOfItsNumbers
account_back a h = record { known = numbers_stand a h; back = same_account a h }

log_sized : (xs : List ℕ) → is_account xs ≡ true → length (account_from xs).log ≡ 1599
unfolding account_from
log_sized xs h = log_length xs (account_length xs h)

same_numbers : (xs : List ℕ) → is_account xs ≡ true → account_numbers (account_from xs) ≡ xs
unfolding account_numbers account_from
same_numbers xs h = rw (state_forth (rest_part xs) (rest_length xs (account_length xs h)) (account_known xs h)) (parts_join xs)

pub numbers_back : NumbersOfTheirAccount
numbers_back xs h = record { sized = log_sized xs h; back = same_numbers xs h }
