-- Which answers are refusals, and coded calls one after the other. Assumes nothing.
use Prim.Native.Nat.{ℕ, ◌+◌, ◌≤◌}
use mathlib.Core.Path.{◌≡◌, refl, sym, ◌∙◌, ap}
use mathlib.Core.Bool.{Bool, true, false, cond}
use mathlib.Core.List.{List, [], ◌∷◌}
use native.Mathlib.Nat.{add_assoc, add-zero, zero-add}
use native.Mathlib.Omega.{arith}
use lib.ListN.{length}
use Rattle.tariff.specs.Tests.{is_accepted}
use Rattle.state.specs.declared.StateApplied.{StateApplied}
use Rattle.state.specs.Reasons.{answer_by}
use Rattle.account.specs.declared.Account.{Account}
use Rattle.account.specs.declared.Call.{Call}
use Rattle.account.specs.Calls.{verdict, accepts, step}
use Rattle.account.specs.Answers.{accepted_answer, applied, applied_state}
use Rattle.account.specs.Whole.{sound}
use Rattle.account.proofs.Returns.{step_size}
use Rattle.account.proofs.Kept.{sound_tells, sound_passes, sound_step}
use Rattle.tripfile.specs.Bodies as File
use Rattle.machine.specs.Machine as machine
use Rattle.ledger.specs.Lists.{run}
use Rattle.replay.specs.declared.Progress.{Progress}
use Rattle.replay.specs.declared.Replayed.{Replayed}
use Rattle.replay.specs.Replay.{count_refused, coded_calls, known, refusals, replay_of, replay_step, progress_of, replayed_of}
use Rattle.std.specs.Prelude.{Option, Some, None, Result, Ok, Err, ⊤}
use Rattle.tariff.specs.declared.Refusal.{Refusal}

-- a refusal is counted
pub counted : (a : Account) (c : Call) → count_refused (applied a c).answer ≡ cond (accepts a c) 0 1
unfolding applied accepts
counted a c = go (verdict a c)
  where
    go : (v : Result ⊤ Refusal) → count_refused (answer_by v (accepted_answer a c)) ≡ cond (is_accepted v) 0 1
    go (Ok tt) = refl
    go (Err r) = refl

-- coded calls, one after the other
pub replay_list : Replayed → List (Option Call) → Replayed
replay_list t [] = t
replay_list t (x ∷ xs) = replay_list (replay_step t x) xs

pub list_is : (xs : List (Option Call)) (t : Replayed) → replay_list t xs ≡ record { account = run t.account (known xs); refused = t.refused + refusals t.account xs }
unfolding replay_list known refusals machine.run machine.step step
list_is [] t = λ i. record { account = t.account; refused = sym (add-zero t.refused) i }
list_is (Some c ∷ xs) t = list_is xs (replay_step t (Some c)) ∙ unfold replay_step in λ i. record { account = run (step t.account c) (known xs); refused = add_assoc t.refused (cond (accepts t.account c) 0 1) (refusals (step t.account c) xs) i }
list_is (None ∷ xs) t = list_is xs (replay_step t None) ∙ unfold replay_step in λ i. record { account = run t.account (known xs); refused = add_assoc t.refused 1 (refusals t.account xs) i }

pub replay_is : (a : Account) (cs : List File.Call) → replay_list (record { account = a; refused = 0 }) (coded_calls cs) ≡ replay_of a cs
unfolding replay_of
replay_is a cs = list_is (coded_calls cs) (record { account = a; refused = 0 }) ∙ λ i. record { account = run a (known (coded_calls cs)); refused = zero-add (refusals a (coded_calls cs)) i }

pub list_step : (t : Replayed) (x : Option Call) (xs : List (Option Call)) → replay_list (replay_step t x) xs ≡ replay_list t (x ∷ xs)
unfolding replay_list
list_step t x xs = refl

pub list_end : (t : Replayed) → replay_list t [] ≡ t
unfolding replay_list
list_end t = refl

one_more : (b : Bool) → cond b 0 1 ≤ 1
one_more true = omega arith
one_more false = omega arith

pub step_bounded : (t : Replayed) (x : Option Call) → (replay_step t x).refused ≤ t.refused + 1
unfolding replay_step
step_bounded t (Some c) = omega (arith, one_more (accepts t.account c))
step_bounded t None = omega arith

-- one more call, where all but the log and the log are held apart
module _ (t : Replayed) (c : Call) (r : StateApplied) (n : ℕ) (e : r ≡ applied_state (applied t.account c)) (f : n ≡ count_refused r.answer) where
  pub replay_known : (b : Bool) → ◌≡◌ {A = Progress} (record { state = r.state; refused = t.refused + n; sound = b }) (progress_of b (replay_step t (Some c)))
  unfolding replay_step applied
  replay_known b =
      let g : n ≡ cond (accepts t.account c) 0 1 = f ∙ ap (λ (x : StateApplied). count_refused x.answer) e ∙ counted t.account c in
      let h : r.state ≡ (step t.account c).state = ap (λ (x : StateApplied). x.state) e in
      λ i. record { state = h i; refused = t.refused + g i; sound = b }

-- a run from its parts
pub replayed_is : (b : Bool) (t : Replayed) (r : Progress) (l : List ℕ) → r ≡ progress_of b t → l ≡ t.account.log → replayed_of r l ≡ t
replayed_is b t r l e f = λ i. record { account = record { state = (e i).state; log = f i }; refused = (e i).refused }

-- a sound account stays sound
pub replay_sound : (t : Replayed) (x : Option Call) → sound t.account ≡ true → sound (replay_step t x).account ≡ true
unfolding replay_step
replay_sound t (Some c) s = sound_passes _ (sound_step t.account c (sound_tells t.account s))
replay_sound t None s = s

-- the log keeps its size
pub replay_size : (t : Replayed) (x : Option Call) → length t.account.log ≡ 1599 → length (replay_step t x).account.log ≡ 1599
unfolding replay_step
replay_size t (Some c) h = step_size t.account c h
replay_size t None h = h
