-- Units that follow others, and charges: what adds up, what grows, and how far. Assumes nothing.
use Prim.Native.Nat.{ℕ, ◌+◌, ◌-◌, ◌≤◌}
use mathlib.Core.Path.{◌≡◌, refl, sym}
use native.Mathlib.Nat.{add_assoc, mul-le-mul, mul-le-mul_left}
use native.Mathlib.Omega.{arith}
use Rattle.tariff.specs.declared.Units.{Units}
use Rattle.tariff.specs.declared.Form.{Form}
use Rattle.tariff.specs.declared.Form.TheVariants.{Prepaid, Bundle, Unlimited}
use Rattle.tariff.specs.declared.Plan.{Plan}
use Rattle.tariff.specs.Units.{AtMost}
use Rattle.tariff.specs.Charges.{after_first, billed_kb, counted_kb, after_allowance, home_charges_of, surcharges_of, PriceFits, BasisFits}
use Rattle.tariff.specs.Charges.{AfterFirstLaws}
use Rattle.std.specs.Prelude.{Option, Some, None}

pub telescope : (x y z : ℕ) → x ≤ y → y ≤ z → (y - x) + (z - y) ≡ z - x
telescope x y z p q = omega arith

-- a record split in two has as many units after the first l as the whole
pub after_first_adds : (l r m n : ℕ) → after_first l r m + after_first l (r + m) n ≡ after_first l r (m + n)
unfolding after_first
after_first_adds l r m n = rw (← add_assoc r m n) (telescope (r - l) (r + m - l) (r + m + n - l) (omega arith) (omega arith))

pub after_first_bounded : (l r n : ℕ) → after_first l r n ≤ n
unfolding after_first
after_first_bounded l r n = omega arith

pub after_first_grows : (l r m n : ℕ) → m ≤ n → after_first l r m ≤ after_first l r n
unfolding after_first
after_first_grows l r m n h = omega arith

pub after_first_laws : AfterFirstLaws
unfolding after_first
after_first_laws = record {
  first_0 = λ r n. omega arith;
  up_to = λ l r n h. omega arith;
  beyond = λ l r n h. omega arith;
  adds_up = λ l r m n. sym (after_first_adds l r m n);
}

pub counted_adds : (f : Form) (m n : ℕ) → counted_kb f m + counted_kb f n ≡ counted_kb f (m + n)
unfolding counted_kb
counted_adds Prepaid m n = refl
counted_adds Bundle m n = refl
counted_adds Unlimited m n = refl

pub counted_bounded : (f : Form) (n : ℕ) → counted_kb f n ≤ n
unfolding counted_kb
counted_bounded Prepaid n = omega arith
counted_bounded Bundle n = omega arith
counted_bounded Unlimited n = omega arith

pub billed_adds : (f : Form) (v h m n : ℕ) → billed_kb f v h m + billed_kb f v (h + counted_kb f m) n ≡ billed_kb f v h (m + n)
unfolding billed_kb counted_kb
billed_adds Prepaid v h m n = refl
billed_adds Bundle v h m n = after_first_adds v h m n
billed_adds Unlimited v h m n = refl

pub billed_bounded : (f : Form) (v h n : ℕ) → billed_kb f v h n ≤ n
unfolding billed_kb
billed_bounded Prepaid v h n = omega arith
billed_bounded Bundle v h n = after_first_bounded v h n
billed_bounded Unlimited v h n = omega arith

pub billed_grows : (f : Form) (v h m n : ℕ) → m ≤ n → billed_kb f v h m ≤ billed_kb f v h n
unfolding billed_kb
billed_grows Prepaid v h m n l = l
billed_grows Bundle v h m n l = after_first_grows v h m n l
billed_grows Unlimited v h m n l = omega arith

pub after_allowance_adds : (l : Option ℕ) (r m n : ℕ) → after_allowance l r m + after_allowance l (r + m) n ≡ after_allowance l r (m + n)
unfolding after_allowance
after_allowance_adds None r m n = refl
after_allowance_adds (Some l) r m n = after_first_adds l r m n

pub after_allowance_bounded : (l : Option ℕ) (r n : ℕ) → after_allowance l r n ≤ n
unfolding after_allowance
after_allowance_bounded None r n = omega arith
after_allowance_bounded (Some l) r n = after_first_bounded l r n

pub after_allowance_grows : (l : Option ℕ) (r m n : ℕ) → m ≤ n → after_allowance l r m ≤ after_allowance l r n
unfolding after_allowance
after_allowance_grows None r m n h = omega arith
after_allowance_grows (Some l) r m n h = after_first_grows l r m n h

-- more units, no smaller charges
pub home_charges_grow : (p : Plan) (u v : Units) → AtMost u v → home_charges_of p u ≤ home_charges_of p v
unfolding home_charges_of
home_charges_grow p u v h =
    omega (arith, mul-le-mul_left p.pergb h.kb, mul-le-mul_left p.perminute h.outgoing, mul-le-mul_left p.persms h.sms)

pub surcharges_grow : (u v : Units) → AtMost u v → surcharges_of u ≤ surcharges_of v
unfolding surcharges_of
surcharges_grow u v h = omega arith

pub home_charges_bounded : (p : Plan) (u : Units) → PriceFits p u → home_charges_of p u ≤ 2000000000000000000
unfolding home_charges_of
home_charges_bounded p u i =
    omega (arith, mul-le-mul i.gigabyte i.kilobytes, mul-le-mul i.minute i.seconds, mul-le-mul i.message i.messages)

pub surcharges_bounded : (u : Units) → BasisFits u → surcharges_of u ≤ 2000000000000000000
unfolding surcharges_of
surcharges_bounded u i = omega arith
