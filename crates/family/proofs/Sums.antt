-- Laws of tests on sums. Assumes nothing.
use Prim.Native.Nat.{ℕ, ◌+◌, ◌-◌, ◌≤◌, ◌<◌}
use mathlib.Core.Path.{◌≡◌}
use native.Mathlib.Omega.{arith}
use lib.Dec.{ltb}
use borrow.Author.Tests.{ltb-true, lt-ltb}
use Rattle.tariff.proofs.Tests.{bool_ext}

-- two comparisons that imply each other are one test
pub ltb_ext : (a b c d : ℕ) → (a < b → c < d) → (c < d → a < b) → ltb a b ≡ ltb c d
ltb_ext a b c d p q = bool_ext _ _ (λ e. lt-ltb c d (p (ltb-true a b e))) (λ e. lt-ltb a b (q (ltb-true c d e)))

-- n on the other side
pub less : (a m n : ℕ) → n ≤ a → ltb (a - n) m ≡ ltb a (m + n)
less a m n h = ltb_ext (a - n) m a (m + n) (λ p. omega arith) (λ p. omega arith)
