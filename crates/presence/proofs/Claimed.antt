-- The claims of specs/Claims and specs/Service. Assumes nothing.
use Prim.Native.Nat.{ℕ}
use mathlib.Core.Path.{◌≡◌, refl}
use mathlib.Core.Bool.{Bool, true, false, cond, ◌&&◌}
use native.Mathlib.Omega.{arith}
use lib.Dec.{leb}
use borrow.Author.Tests.{lt-leb, lt-ltb}
use Rattle.presence.specs.declared.ServiceState.TheVariants.{Clear, Warned, Surcharged}
use Rattle.presence.specs.Window.{prevalent_long}
use Rattle.presence.specs.Service.{next_state, StateLaws}
use Rattle.presence.specs.Claims.{LogKeepsDays, NumbersAreOfDays}
use Rattle.presence.proofs.Numbers.{days_joined, days_empty, numbers_back}

pub log_keeps_days : LogKeepsDays
log_keeps_days = record { joins = days_joined; empty = days_empty }

pub numbers_are_of_days : NumbersAreOfDays
numbers_are_of_days = numbers_back

not_surcharged : (b : Bool) → cond b (Warned 0) Clear ≡ Surcharged → ⊥
not_surcharged true e = let z : ◌≡◌ {A = ℕ} 0 1 = cc in omega arith
not_surcharged false e = let z : ◌≡◌ {A = ℕ} 0 1 = cc in omega arith

pub state_laws : StateLaws
unfolding next_state
state_laws = record {
  stays_clear = λ s n ds h. rw (lt-leb 123 n h) refl;
  counts_on = λ s n k ds h. rw (lt-ltb k 14 h) refl;
  never_at_once = λ s n ds. not_surcharged (leb 123 n && prevalent_long s n ds);
}
