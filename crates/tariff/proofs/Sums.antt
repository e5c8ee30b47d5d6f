-- The algebra of units: sums, products and order, kind by kind. Assumes nothing.
use Prim.Native.Nat.{ℕ, ◌+◌, ◌≤◌}
use mathlib.Core.Path.{◌≡◌, refl}
use mathlib.Core.Bool.{true, ◌&&◌}
use native.Mathlib.Nat.{add_assoc, mul-add}
use native.Mathlib.Omega.{arith}
use lib.Dec.{leb}
use borrow.Author.Tests.{leb-true, le-leb}
use Rattle.tariff.specs.declared.Units.{Units}
use Rattle.tariff.specs.declared.Kind.{Kind}
use Rattle.tariff.specs.declared.Kind.TheVariants.{Data, Outgoing, Incoming, Sms}
use Rattle.tariff.specs.Units.{◌⊕◌, ◌⊗◌, only, of_kind, fits, AtMost}
use Rattle.tariff.proofs.Tests.{and_left, and_right}

pub ⊕-assoc : (t u v : Units) → t ⊕ u ⊕ v ≡ t ⊕ (u ⊕ v)
⊕-assoc t u v = simp add_assoc

pub ⊗-⊕ : (t u v : Units) → t ⊗ u ⊕ t ⊗ v ≡ t ⊗ (u ⊕ v)
⊗-⊕ t u v = simp mul-add

pub at_most_sum : (u v : Units) → AtMost u (u ⊕ v)
at_most_sum u v = omega arith

-- units of one kind add up, and keep their order
pub only_sum : (k : Kind) (m n : ℕ) → only k m ⊕ only k n ≡ only k (m + n)
only_sum Data m n = refl
only_sum Outgoing m n = refl
only_sum Incoming m n = refl
only_sum Sms m n = refl

pub only_order : (k : Kind) (m n : ℕ) → m ≤ n → AtMost (only k m) (only k n)
only_order Data m n h = omega arith
only_order Outgoing m n h = omega arith
only_order Incoming m n h = omega arith
only_order Sms m n h = omega arith

pub kind_of_sum : (k : Kind) (u v : Units) → of_kind k (u ⊕ v) ≡ of_kind k u + of_kind k v
kind_of_sum Data u v = refl
kind_of_sum Outgoing u v = refl
kind_of_sum Incoming u v = refl
kind_of_sum Sms u v = refl

pub kind_of_only : (k : Kind) (n : ℕ) → of_kind k (only k n) ≡ n
kind_of_only Data n = refl
kind_of_only Outgoing n = refl
kind_of_only Incoming n = refl
kind_of_only Sms n = refl

-- the test of the order is the order
pub fits_tells : (u v : Units) → fits u v ≡ true → AtMost u v
fits_tells u v h =
    let a = leb u.kb v.kb in
    let b = leb u.outgoing v.outgoing in
    let c = leb u.incoming v.incoming in
    let d = leb u.sms v.sms in
    let h3 = and_left (a && b && c) d h in
    let h2 = and_left (a && b) c h3 in
    record {
      kb = leb-true _ _ (and_left a b h2);
      outgoing = leb-true _ _ (and_right a b h2);
      incoming = leb-true _ _ (and_right (a && b) c h3);
      sms = leb-true _ _ (and_right (a && b && c) d h);
    }

pub fits_yes : (u v : Units) → AtMost u v → fits u v ≡ true
fits_yes u v h = simp (le-leb _ _ h.kb, le-leb _ _ h.outgoing, le-leb _ _ h.incoming, le-leb _ _ h.sms)
