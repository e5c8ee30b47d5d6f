-- The calls of a section, one after the other, and as the code's loop runs them. Assumes nothing.
use Prim.Native.Nat.{ℕ, zero, suc, ◌+◌, ◌*◌, ◌/◌, ◌≤◌, ◌<◌}
use mathlib.Core.Path.{◌≡◌, refl, sym, ◌∙◌, ap}
use mathlib.Core.List.{List, [], ◌∷◌, ◌++◌}
use native.Mathlib.Numerals.{add-one}
use native.Mathlib.Omega.{arith}
use lib.ListN.{length}
use Rattle.words.specs.Words.{word}
use mathlib.Core.Bool.{Bool, true, false}
use lib.Dec.{leb}
use borrow.Author.Tests.{leb-false}
use Rattle.account.specs.declared.Account.{Account}
use Rattle.std.specs.Prelude.{Option, Some, None}
use Rattle.account.specs.declared.Call.{Call}
use Rattle.account.specs.Whole.{sound}
use Rattle.account.specs.Answers.{account_of}
use Rattle.tripfile.specs.Bodies as File
use Rattle.tripfile.specs.Bodies.{first_calls, calls_in}
use Rattle.reader.specs.declared.CodedCall.{CodedCall}
use Rattle.reader.specs.Calls.{decoded, position_after}
use Rattle.reader.proofs.Decoded.{decoded_call, after_call}
use Rattle.replay.specs.declared.Progress.{Progress}
use Rattle.replay.specs.declared.Replayed.{Replayed}
use Rattle.replay.specs.Replay.{coded, coded_calls, run_section, replay_step, after_step, run_first, replayed_of, progress_of, SaidSound}
use Rattle.replay.proofs.Steps.{replay_list, replay_is, list_step, list_end, step_bounded, replay_size, replay_sound, replayed_is}

coded_more : (cs : List File.Call) (c : File.Call) → coded_calls (cs ++ (c ∷ [])) ≡ coded_calls cs ++ (coded c.code c.number ∷ [])
unfolding coded_calls
coded_more [] c = refl
coded_more (x ∷ cs) c = rw (coded_more cs c)

list_more : (xs : List (Option Call)) (t : Replayed) (x : Option Call) → replay_list t (xs ++ (x ∷ [])) ≡ replay_step (replay_list t xs) x
list_more [] t x = sym (list_step t x []) ∙ list_end (replay_step t x) ∙ ap (λ (s : Replayed). replay_step s x) (sym (list_end t))
list_more (y ∷ xs) t x = sym (list_step t y (xs ++ (x ∷ []))) ∙ list_more xs (replay_step t y) x ∙ ap (λ (s : Replayed). replay_step s x) (list_step t y xs)

first_is : (a : Account) (s : List ℕ) (n : ℕ) → run_first a s n ≡ replay_list (record { account = a; refused = 0 }) (coded_calls (first_calls s n))
unfolding run_first first_calls coded_calls
first_is a s zero = sym (list_end _)
first_is a s (suc n) =
    ap (λ (t : Replayed). replay_step t (coded (word s (2 * n)) (word s (2 * n + 1)))) (first_is a s n)
    ∙ sym (list_more (coded_calls (first_calls s n)) _ _) ∙ ap (replay_list _) (sym (coded_more (first_calls s n) _))

pub section_replayed : (a : Account) (s : List ℕ) → run_first a s (length s / 8) ≡ run_section a s
unfolding calls_in
section_replayed a s = first_is a s (length s / 8) ∙ replay_is a (first_calls s (length s / 8))

pub all_replayed : (a : Account) (s : List ℕ) (n : ℕ) → n ≡ length s / 8 → run_first a s n ≡ run_section a s
all_replayed a s n e = ap (run_first a s) e ∙ section_replayed a s

pub run_none : (a : Account) (s : List ℕ) → run_first a s 0 ≡ record { account = a; refused = 0 }
unfolding run_first
run_none a s = refl

run_more : (a : Account) (s : List ℕ) (i : ℕ) → 8 * i + 8 ≤ length s → after_step (run_first a s i) (decoded s (8 * i)) ≡ run_first a s (i + 1)
unfolding run_first
run_more a s i h = rw (decoded_call s i h, add-one i) refl

pub run_bounded : (a : Account) (s : List ℕ) (n : ℕ) → (run_first a s n).refused ≤ n
unfolding run_first
run_bounded a s zero = omega arith
run_bounded a s (suc n) = omega (arith, run_bounded a s n, step_bounded (run_first a s n) (coded (word s (2 * n)) (word s (2 * n + 1))))

-- the reader's position after call i
pub passed_call : (s : List ℕ) (i n : ℕ) → i < n → 8 * n ≤ length s → position_after s (8 * i) ≡ 8 * (i + 1)
passed_call s i n l h =
    let fits : 8 * i + 8 ≤ length s = omega arith in
    let e : 8 * i + 8 ≡ 8 * (i + 1) = omega arith in
    after_call s (8 * i) fits ∙ e

-- the log keeps its size
pub step_keeps_size : (t : Replayed) (s : Option CodedCall) → length t.account.log ≡ 1599 → length (after_step t s).account.log ≡ 1599
step_keeps_size t (Some c) h = replay_size t (coded c.code c.number) h
step_keeps_size t None h = h

-- a sound account stays sound
step_sound : (t : Replayed) (s : Option CodedCall) → sound t.account ≡ true → sound (after_step t s).account ≡ true
step_sound t (Some c) h = replay_sound t (coded c.code c.number) h
step_sound t None h = h

-- so what is known of it is so after a call
pub stays_known : (t : Progress) (log : List ℕ) (x : Option CodedCall) (p : Progress) (zs : List ℕ) → SaidSound t.sound (account_of t.state log)
    → p ≡ progress_of t.sound (after_step (replayed_of t log) x) → zs ≡ (after_step (replayed_of t log) x).account.log → SaidSound p.sound (account_of p.state zs)
stays_known t log x p zs k e f h =
    let g = ap (λ (q : Replayed). sound q.account) (replayed_is t.sound (after_step (replayed_of t log) x) p zs e f) in
    g ∙ step_sound (replayed_of t log) x (k (sym (ap (λ (q : Progress). q.sound) e) ∙ h))

-- where no call is handed out fewer than 8 bytes are left
pub decoded_ends : (s : List ℕ) (at : ℕ) → None ≡ decoded s at → length s < at + 8
decoded_ends s at e = go (leb (at + 8) (length s)) refl
  where
    go : (b : Bool) → leb (at + 8) (length s) ≡ b → length s < at + 8
    go true h = let f : None ≡ Some _ = rw h at e in cc
    go false h = leb-false _ _ h

-- one call of the code's loop: the call that the reader hands out at call i's place, run with the log lent
pub turned : (a : Account) (s : List ℕ) (i n : ℕ) (t : Progress) (log : List ℕ) (x : Option CodedCall) (p : Progress) (zs : List ℕ)
    → i < n → 8 * n ≤ length s → replayed_of t log ≡ run_first a s i → x ≡ decoded s (8 * i)
    → p ≡ progress_of t.sound (after_step (replayed_of t log) x) → zs ≡ (after_step (replayed_of t log) x).account.log → replayed_of p zs ≡ run_first a s (i + 1)
turned a s i n t log x p zs l h same d e f =
    let fits : 8 * i + 8 ≤ length s = omega arith in
    replayed_is t.sound (after_step (replayed_of t log) x) p zs e f ∙ rw (d, same) (run_more a s i fits)

-- fewer calls are refused than are run
pub few_refused : (a : Account) (s : List ℕ) (i n : ℕ) (t : Progress) (log : List ℕ) → i < n → n < 18446744073709551616 → replayed_of t log ≡ run_first a s i → t.refused < 18446744073709551615
few_refused a s i n t log l h e =
    let k : t.refused ≡ (run_first a s i).refused = ap (λ (x : Replayed). x.refused) e in
    omega (arith, k, run_bounded a s i)

-- no call of the first n is missing where the section has them all
pub all_taken : (s : List ℕ) (i left n : ℕ) → left + i ≡ n → 8 * n ≤ length s → (0 < left → None ≡ decoded s (8 * i)) → i ≡ n
all_taken s i zero n e h f = omega arith
all_taken s i (suc k) n e h f = absurd (omega (arith, decoded_ends s (8 * i) (f (omega arith))))
