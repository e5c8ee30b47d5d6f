-- Calls on the account that numbers stand for. Assumes nothing.
use Prim.Native.Nat.{ℕ, ◌≤◌}
use mathlib.Core.Path.{◌≡◌, refl, sym, ◌∙◌, ap}
use mathlib.Core.Bool.{Bool, true, false, cond, false≢true}
use mathlib.Core.List.{List, ◌++◌}
use native.Mathlib.Omega.{arith}
use lib.Dec.{leb}
use lib.ListN.{length, take, drop, length-drop, length-append}
use lib.Seq.{take_at, length-take-le}
use borrow.Author.Tests.{leb-true}
use Rattle.tariff.proofs.Tests.{and_right}
use Rattle.tariff.specs.declared.Kind.{Kind}
use Rattle.tariff.specs.Tests.{is_accepted}
use Rattle.state.specs.declared.State.{State}
use Rattle.state.specs.declared.Outcome.{Outcome}
use Rattle.state.specs.declared.Outcome.TheVariants.{Done, Charged, UpTo}
use Rattle.state.specs.declared.StateApplied.{StateApplied}
use Rattle.state.specs.Reasons.{answer_by, is_taken}
use Rattle.account.specs.declared.Account.{Account}
use Rattle.account.specs.declared.Applied.{Applied}
use Rattle.account.specs.declared.Call.{Call}
use Rattle.account.specs.declared.Call.TheVariants.{Register, Use, TopUp, NextDay, Afford}
use Rattle.account.specs.Whole.{sound}
use Rattle.account.specs.Calls.{verdict, accepts, step}
use Rattle.account.specs.Answers.{afford_of, accepted_answer, applied, account_of, applied_state}
use Rattle.account.proofs.Kept.{Sound, sound_tells, sound_step}
use Rattle.account.proofs.Claimed.{refused_changes_nothing}
use Rattle.account.proofs.Returns.{unsound, step_size}
use Rattle.numbers.specs.Numbers.{state_numbers, log_part, rest_part, account_numbers, account_from, is_account, Writable}
use Rattle.numbers.proofs.Laid.{parts_join}
use Rattle.numbers.proofs.Back.{account_length, account_back, numbers_back}
use Rattle.meter.specs.Claims.{CallsFollowTheAccount, RefusedChangesNoNumber}
use Rattle.meter.specs.Calls.{call_answer, call_numbers, sound_numbers, kind_with_room, answer_size, settled, Settles}
use Rattle.std.specs.Prelude.{Result, Ok, Err, ⊤}
use Rattle.tariff.specs.declared.Refusal.{Refusal}
use Rattle.tariff.specs.declared.Refusal.TheVariants.{Unsound}

-- the log's part, and another log before the same rest
pub prefix_length : (xs : List ℕ) → length xs ≡ 1649 → length (take 1599 xs) ≡ 1599
prefix_length xs e = length-take-le 1599 xs (omega arith)

pub log_new : (l xs : List ℕ) → length l ≡ 1599 → log_part (l ++ drop 1599 xs) ≡ l
unfolding log_part
log_new l xs e = take_at l (drop 1599 xs) 1599 e

pub joined_length : (l xs : List ℕ) → length l ≡ 1599 → length xs ≡ 1649 → length (l ++ drop 1599 xs) ≡ 1649
joined_length l xs e h = length-append l (drop 1599 xs) ∙ omega (arith, length-drop 1599 xs)

log_joined : (xs : List ℕ) → log_part xs ++ drop 1599 xs ≡ xs
log_joined xs = unfold rest_part in parts_join xs

-- the account from its state and the log's part
pub account_again : (xs : List ℕ) (s : State) (l : List ℕ) → s ≡ (account_from xs).state → l ≡ take 1599 xs → account_of s l ≡ account_from xs
unfolding account_from log_part
account_again xs s l e f = λ j. record { state = e j; log = f j }

-- numbers that stand for no account
pub no_account : (xs : List ℕ) (c : Call) → is_account xs ≡ false → (Err Unsound ≡ call_answer xs c) × (xs ≡ call_numbers xs c)
unfolding call_answer call_numbers
no_account xs c e = (rw e refl, rw e refl)

-- which answers are accepted calls'
taken_is : (a : Account) (c : Call) → is_taken (applied a c).answer ≡ accepts a c
unfolding applied accepts
taken_is a c = go (verdict a c) c
  where
    go : (v : Result ⊤ Refusal) (c : Call) → is_taken (answer_by v (accepted_answer a c)) ≡ is_accepted v
    go (Err n) c = refl
    go (Ok tt) (Register p) = unfold accepted_answer in refl
    go (Ok tt) (Use k n) = unfold accepted_answer in refl
    go (Ok tt) (TopUp n) = unfold accepted_answer in refl
    go (Ok tt) NextDay = unfold accepted_answer in refl
    go (Ok tt) (Afford k) = unfold accepted_answer in refl

-- a sound account's state has numbers that fit
pub writable : (a : Account) → Sound a → Writable a.state
writable a s = let f = s.counters in record { allowance = f.allowance_ok; internet = f.internet_ok; calls = f.calls_ok; messages = f.messages_ok }

-- what a call hands back: an accepted one a sound account, a refused one the account as it was, each with a whole log
pub record Handed (a : Account) (x : Applied) : Type 0 where
  pub next_sound : is_taken x.answer ≡ true → Sound x.account
  pub same : is_taken x.answer ≡ false → x.account ≡ a
  pub sized : length a.log ≡ 1599 → length x.account.log ≡ 1599

pub call_handed : (a : Account) (c : Call) → Handed a (applied a c)
unfolding applied
call_handed a c = record {
  next_sound = λ h. go h (sound a) refl;
  same = λ h. refused_changes_nothing a c (sym (taken_is a c) ∙ h);
  sized = step_size a c;
}
  where
    go : is_taken (applied a c).answer ≡ true → (b : Bool) → sound a ≡ b → Sound (step a c)
    go h true e = sound_step a c (sound_tells a e)
    go h false e = absurd (false≢true (ap (λ (x : Applied). is_taken x.answer) (unsound a c e) ∙ h))

pub settles_of : (x : StateApplied) (a : Account) (y : Applied) → Handed a y → x ≡ applied_state y → Settles x
settles_of x a y h e = rw e (λ t. writable y.account (h.next_sound t))

pub settled_yes : (x : StateApplied) (zs : List ℕ) → is_taken x.answer ≡ true → log_part zs ++ state_numbers x.state ≡ settled x zs
unfolding settled
settled_yes x zs e = rw e refl

pub settled_no : (x : StateApplied) (zs : List ℕ) → is_taken x.answer ≡ false → zs ≡ settled x zs
unfolding settled
settled_no x zs e = rw e refl

-- the log that a call leaves
pub new_length : (xs : List ℕ) (y : Applied) (l : List ℕ) → is_account xs ≡ true → Handed (account_from xs) y
    → l ≡ y.account.log → length l ≡ 1599
new_length xs y l h k e = ap length e ∙ k.sized (numbers_back xs h).sized

log_is : (xs : List ℕ) → (account_from xs).log ≡ log_part xs
unfolding account_from
log_is xs = refl

-- the state of an accepted call behind that log; a refused one leaves all as it was
taken_laid : (b : Account) (l xs : List ℕ) → length l ≡ 1599 → l ≡ b.log
    → log_part (l ++ drop 1599 xs) ++ state_numbers b.state ≡ account_numbers b
unfolding account_numbers
taken_laid b l xs h e = ap (λ (t : List ℕ). t ++ state_numbers b.state) (log_new l xs h ∙ e)

refused_laid : (xs l : List ℕ) (b : Account) → is_account xs ≡ true → b ≡ account_from xs → l ≡ b.log
    → l ++ drop 1599 xs ≡ account_numbers b
refused_laid xs l b h same e =
    let old : l ≡ log_part xs = e ∙ (ap (λ (x : Account). x.log) same ∙ log_is xs) in
    ap (λ (t : List ℕ). t ++ drop 1599 xs) old
    ∙ (log_joined xs ∙ (sym (numbers_back xs h).back ∙ ap account_numbers (sym same)))

pub settled_is : (xs l : List ℕ) (y : Applied) → is_account xs ≡ true → Handed (account_from xs) y → l ≡ y.account.log
    → settled (applied_state y) (l ++ drop 1599 xs) ≡ account_numbers y.account
settled_is xs l y h k e = go (is_taken y.answer) refl
  where
    go : (b : Bool) → is_taken y.answer ≡ b → settled (applied_state y) (l ++ drop 1599 xs) ≡ account_numbers y.account
    go true n =
        sym (settled_yes (applied_state y) (l ++ drop 1599 xs) n)
        ∙ taken_laid y.account l xs (new_length xs y l h k e) e
    go false n = sym (settled_no (applied_state y) (l ++ drop 1599 xs) n) ∙ refused_laid xs l y.account h (k.same n) e

-- the answer and the numbers after a call, from what it answers with all but the log, and the log
pub done_of : (xs l : List ℕ) (c : Call) (x : StateApplied) → is_account xs ≡ true → x ≡ applied_state (applied (account_from xs) c)
    → l ≡ (step (account_from xs) c).log → (x.answer ≡ call_answer xs c) × (settled x (l ++ drop 1599 xs) ≡ call_numbers xs c)
unfolding call_answer call_numbers
done_of xs l c x h e f =
    let k = call_handed (account_from xs) c in (
      rw h (ap (λ (y : StateApplied). y.answer) e),
      rw h (ap (λ (y : StateApplied). settled y (l ++ drop 1599 xs)) e
          ∙ settled_is xs l (applied (account_from xs) c) h k (f ∙ (unfold applied in refl))),
    )

-- the same from the state and the log's part that the call was made on
module _ (xs l m : List ℕ) (c : Call) (s : State) (x : StateApplied) (h : is_account xs ≡ true) (e : s ≡ (account_from xs).state)
    (f : m ≡ take 1599 xs) (g : x ≡ applied_state (applied (account_of s m) c)) (k : l ≡ (step (account_of s m) c).log) where
  call_made : x ≡ applied_state (applied (account_from xs) c)
  call_made = g ∙ ap (λ (a : Account). applied_state (applied a c)) (account_again xs s m e f)

  log_made : l ≡ (step (account_from xs) c).log
  log_made = k ∙ ap (λ (a : Account). (step a c).log) (account_again xs s m e f)

  pub call_settles : (length (l ++ drop 1599 xs) ≡ 1649) × Settles x
  unfolding applied
  call_settles =
      let y = applied (account_from xs) c in
      let d = call_handed (account_from xs) c in
      (joined_length l xs (new_length xs y l h d log_made) (account_length xs h), settles_of x (account_from xs) y d call_made)

  pub call_done : (x.answer ≡ call_answer xs c) × (settled x (l ++ drop 1599 xs) ≡ call_numbers xs c)
  call_done = done_of xs l c x h call_made log_made

-- of a call that leaves the numbers, the answer
pub answered : (xs : List ℕ) (c : Call) (x : Result Outcome Refusal) → is_account xs ≡ true → x ≡ (applied (account_from xs) c).answer → x ≡ call_answer xs c
unfolding call_answer
answered xs c x h e = rw h e

-- room for what is put
pub few_numbers : (x : Result Outcome Refusal) → answer_size x ≤ 5
few_numbers (Ok Done) = omega arith
few_numbers (Ok (Charged c)) = omega arith
few_numbers (Ok (UpTo n)) = omega arith
few_numbers (Err n) = omega arith

pub afford_one : (xs : List ℕ) (k : Kind) → answer_size (call_answer xs (Afford k)) ≤ 1
unfolding call_answer applied accepted_answer
afford_one xs k = go (is_account xs) (verdict (account_from xs) (Afford k))
  where
    go : (b : Bool) (v : Result ⊤ Refusal) → answer_size (cond b (answer_by v (UpTo (afford_of (account_from xs) k))) (Err Unsound)) ≤ 1
    go false v = omega arith
    go true (Ok tt) = omega arith
    go true (Err n) = omega arith

-- soundness of what numbers stand for
pub sound_by : (xs : List ℕ) (b : Bool) → is_account xs ≡ true → b ≡ sound (account_from xs) → b ≡ sound_numbers xs
unfolding sound_numbers
sound_by xs b h e = rw h e

-- a known kind with room for the answer
pub room_is : (kind size : ℕ) (ys : List ℕ) → kind_with_room kind size ys ≡ true → size ≤ length ys
unfolding kind_with_room
room_is kind size ys h = leb-true size (length ys) (and_right (leb kind 3) (leb size (length ys)) h)

-- the library's calls are the account's
pub calls_follow : CallsFollowTheAccount
unfolding call_answer call_numbers
calls_follow a c h =
    let b = account_back a h in
    record {
      answer = rw b.known (ap (λ (x : Account). (applied x c).answer) b.back);
      numbers = rw b.known (ap (λ (x : Account). account_numbers (applied x c).account) b.back);
    }

-- a refused one leaves the numbers
handed_back : (a : Account) (c : Call) → accepts a c ≡ false → (applied a c).account ≡ a
unfolding applied
handed_back a c n = refused_changes_nothing a c n

pub refused_changes_no_number : RefusedChangesNoNumber
unfolding call_answer call_numbers
refused_changes_no_number xs c h = go (is_account xs) refl h
  where
    go : (b : Bool) → is_account xs ≡ b → is_taken (cond b (applied (account_from xs) c).answer (Err Unsound)) ≡ false → cond b (account_numbers (applied (account_from xs) c).account) xs ≡ xs
    go false e k = refl
    go true e k =
        let n : accepts (account_from xs) c ≡ false = sym (taken_is (account_from xs) c) ∙ k in
        ap account_numbers (handed_back (account_from xs) c n) ∙ (numbers_back xs e).back
