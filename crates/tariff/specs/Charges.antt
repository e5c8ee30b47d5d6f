-- Which kB bear home price and surcharge, and what units come to over an account's life (use-3, use-4, use-7, use-11,
-- use-12, limit-2). Choices (docs/DECISIONS.md, "Account"): units after the first L of R, or V of H; L none; L 0; H.
-- Assumes nothing.
use Rattle.std.specs.Prelude.{ℕ, ◌+◌, ◌*◌, ◌-◌, ◌/◌, ◌≤◌, ◌≡◌, Option, Some, None}
use Rattle.tariff.specs.declared.Units.{Units}
use Rattle.tariff.specs.declared.Form.{Form}
use Rattle.tariff.specs.declared.Form.TheVariants.{Prepaid, Bundle, Unlimited}
use Rattle.tariff.specs.declared.Plan.{Plan}

-- use-4, use-7: of n units that follow r others, those past the first l
unfoldable pub after_first : ℕ → ℕ → ℕ → ℕ
after_first l r n = (r + n - l) - (r - l)

-- use-4, use-7, law: past a limit of 0 lie all units, up to the limit none, beyond it all; and two records come to one
pub record AfterFirstLaws : Type 0 where
  pub first_0 : (r n : ℕ) → after_first 0 r n ≡ n
  pub up_to : (l r n : ℕ) → r + n ≤ l → after_first l r n ≡ 0
  pub beyond : (l r n : ℕ) → l ≤ r → after_first l r n ≡ n
  pub adds_up : (l r m n : ℕ) → after_first l r (m + n) ≡ after_first l r m + after_first l (r + m) n

-- use-3, use-4: of n kB, after h others of the month, those that bear the home price
unfoldable pub billed_kb : Form → ℕ → ℕ → ℕ → ℕ
billed_kb Prepaid v h n = n
billed_kb Bundle v h n = after_first v h n
billed_kb Unlimited v h n = 0

-- limit-2: what n kB add to H
unfoldable pub counted_kb : Form → ℕ → ℕ
counted_kb Prepaid n = 0
counted_kb Bundle n = n
counted_kb Unlimited n = n

-- use-7, limit-1: of n zone kB, after r others, those past L
unfoldable pub after_allowance : Option ℕ → ℕ → ℕ → ℕ
after_allowance None r n = 0
after_allowance (Some l) r n = after_first l r n

-- use-11, unit-1, limit-3: home charges over the account's life
unfoldable pub home_charges_of : Plan → Units → ℕ
home_charges_of p u = p.pergb * u.kb / 1048576 + p.perminute * u.outgoing / 60 + p.persms * u.sms

-- use-12, unit-1, limit-3: surcharges, from the sums of cap by units
unfoldable pub surcharges_of : Units → ℕ
surcharges_of basis = basis.kb / 1048576 + basis.outgoing / 60 + basis.incoming / 60 + basis.sms

-- aid: what keeps home charges within the machine's numbers
pub record PriceFits (p : Plan) (u : Units) : Type 0 where
  pub gigabyte : p.pergb ≤ 1000000
  pub minute : p.perminute ≤ 1000000
  pub message : p.persms ≤ 1000000
  pub kilobytes : u.kb ≤ 1000000000000
  pub seconds : u.outgoing ≤ 1000000000000
  pub messages : u.sms ≤ 1000000000000

-- aid: the same of the sums of cap by units
pub record BasisFits (u : Units) : Type 0 where
  pub kb : u.kb ≤ 1000000000000000000
  pub outgoing : u.outgoing ≤ 1000000000000000000
  pub incoming : u.incoming ≤ 1000000000000000000
  pub sms : u.sms ≤ 1000000000000000000
