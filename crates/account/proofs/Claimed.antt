-- The claims of specs/Claims. Assumes nothing.
use Prim.Native.Nat.{ℕ, ◌<◌}
use mathlib.Core.Path.{◌≡◌, refl, ap}
use mathlib.Core.Bool.{Bool, true, false, not, cond}
use lib.Dec.{leb}
use borrow.Author.Tests.{leb-true, leb-false, lt-leb}
use Rattle.tariff.specs.declared.Kind.{Kind}
use Rattle.tariff.specs.Tests.{verdict_of, is_accepted}
use Rattle.tariff.proofs.Tests.{and-false}
use Rattle.presence.specs.Day.{is_placed}
use Rattle.state.specs.Reasons.{use_reasons}
use Rattle.account.specs.Largest.{largest}
use Rattle.account.proofs.Search.{largest_passes, largest_last}
use Rattle.account.specs.declared.Account.{Account}
use Rattle.account.specs.declared.Call.TheVariants.{Use}
use Rattle.account.specs.Whole.{sound, opened}
use Rattle.account.specs.Calls.{own_reasons, reasons, verdict, accepts, step}
use Rattle.account.specs.Answers.{open_answer, afford_of}
use Rattle.account.specs.Claims.{AffordIsLargest, AffordChangesNothing, RefusedChangesNothing, OpenTellsSound}
use Rattle.account.proofs.Kept.{sound_passes, sound_opened, no_plan_unsound}
use Rattle.account.proofs.Affords.{afford_keeps}
use Rattle.std.specs.Prelude.{Err}
use Rattle.tariff.specs.declared.Refusal.TheVariants.{Unsound, Unplaced, UnitCount}

-- refusal 4 holds for every larger number
refused_many : (a : Account) (k : Kind) (n : ℕ) → 1000000000 < n → accepts a (Use k n) ≡ false
unfolding accepts verdict reasons own_reasons use_reasons verdict_of
refused_many a k n h = rw (lt-leb n 1000000000 h, and-false (leb 1 n)) (go (sound a) (is_placed a.state.place))
  where
    go : (b c : Bool) → is_accepted (cond (not b) (Err Unsound) (cond (not c) (Err Unplaced) (Err UnitCount))) ≡ false
    go true true = refl
    go true false = refl
    go false c = refl

pub afford_is_largest : AffordIsLargest
unfolding afford_of
afford_is_largest a k = record { passes = largest_passes (λ n. accepts a (Use k n)) 1000000000; none_larger = λ m h. go m h (leb m 1000000000) refl }
  where
    go : (m : ℕ) → largest (λ n. accepts a (Use k n)) 1000000000 < m → (b : Bool) → leb m 1000000000 ≡ b → accepts a (Use k m) ≡ false
    go m h true e = largest_last (λ n. accepts a (Use k n)) 1000000000 m h (leb-true m 1000000000 e)
    go m h false e = refused_many a k m (leb-false m 1000000000 e)

pub afford_changes_nothing : AffordChangesNothing
afford_changes_nothing = afford_keeps

pub refused_changes_nothing : RefusedChangesNothing
unfolding step
refused_changes_nothing a c e = rw e refl

pub open_tells_sound : OpenTellsSound
unfolding open_answer
open_tells_sound p = record {
  taken = λ e. rw e (sound_passes (opened p) (sound_opened p (ap is_accepted e)));
  refused = λ n e. rw e no_plan_unsound;
}
