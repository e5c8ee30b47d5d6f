-- What Afford returns. Assumes nothing.
use Prim.Native.Nat.{ℕ}
use mathlib.Core.Path.{◌≡◌, refl, sym, ◌∙◌, ap}
use mathlib.Core.Bool.{Bool, true, false, cond}
use Rattle.tariff.specs.declared.Kind.{Kind}
use Rattle.tariff.specs.Tests.{verdict_of}
use Rattle.presence.specs.Day.{is_placed}
use Rattle.account.specs.Largest.{use_accepted, most_units}
use Rattle.account.proofs.Search.{largest_same}
use Rattle.account.specs.declared.Account.{Account}
use Rattle.state.specs.declared.StateApplied.{StateApplied}
use Rattle.state.specs.declared.Outcome.TheVariants.{UpTo}
use Rattle.account.specs.declared.Applied.{Applied}
use Rattle.account.specs.declared.Call.TheVariants.{Use, Afford}
use Rattle.account.specs.Whole.{sound}
use Rattle.account.specs.Calls.{own_reasons, reasons, verdict, accepts, after, step}
use Rattle.account.specs.Answers.{afford_of, accepted_answer, applied, applied_state}
use Rattle.std.specs.Prelude.{Ok, Err}
use Rattle.tariff.specs.declared.Refusal.TheVariants.{Unplaced}

accepts_is : (a : Account) (k : Kind) (n : ℕ) → sound a ≡ true → accepts a (Use k n) ≡ use_accepted a.state k n
unfolding accepts verdict reasons own_reasons verdict_of use_accepted
accepts_is a k n s = rw s refl

afford_is : (a : Account) (k : Kind) → sound a ≡ true → afford_of a k ≡ most_units a.state k
unfolding afford_of most_units
afford_is a k s = largest_same (λ n. accepts a (Use k n)) (use_accepted a.state k) 1000000000 (λ n. accepts_is a k n s)

module _ (a : Account) (k : Kind) (s : sound a ≡ true) where
  pub afford_nowhere : is_placed a.state.place ≡ false → ◌≡◌ {A = Applied} (record { answer = Err Unplaced; account = a }) (applied a (Afford k))
  unfolding applied accepted_answer verdict reasons own_reasons verdict_of step accepts
  afford_nowhere p = rw (s, p) refl

  pub afford_yes : (r : ℕ) → is_placed a.state.place ≡ true → r ≡ most_units a.state k → ◌≡◌ {A = Applied} (record { answer = Ok (UpTo r); account = a }) (applied a (Afford k))
  unfolding applied accepted_answer verdict reasons own_reasons verdict_of step accepts after
  afford_yes r p e =
      let q : r ≡ afford_of a k = e ∙ sym (afford_is a k s) in
      rw (s, p, ← q) refl

same : (b : Bool) (a : Account) → cond b a a ≡ a
same true a = refl
same false a = refl

pub afford_keeps : (a : Account) (k : Kind) → step a (Afford k) ≡ a
unfolding step after
afford_keeps a k = same (accepts a (Afford k)) a

pub log_afforded : (a : Account) (k : Kind) → (step a (Afford k)).log ≡ a.log
log_afforded a k = ap (λ (x : Account). x.log) (afford_keeps a k)

-- Afford's answer, beside all of the account but its log, which it leaves
pub afford_answered : (a : Account) (k : Kind) → ◌≡◌ {A = StateApplied} (record { answer = (applied a (Afford k)).answer; state = a.state }) (applied_state (applied a (Afford k)))
unfolding applied
afford_answered a k = λ i. record { answer = (applied a (Afford k)).answer; state = (sym (afford_keeps a k) i).state }
