-- What holds of every account and call beside the answers themselves (afford-1, order-2, account-3). Choices
-- (docs/DECISIONS.md, "Account" and "Afford"): refused Open; effect. Assumes nothing.
use Rattle.std.specs.Prelude.{◌≡◌, true, false, Ok, Err}
use Rattle.tariff.specs.declared.Kind.{Kind}
use Rattle.tariff.specs.declared.Plan.{Plan}
use Rattle.tariff.specs.declared.Refusal.{Refusal}
use Rattle.account.specs.declared.Account.{Account}
use Rattle.account.specs.declared.Call.{Call}
use Rattle.account.specs.declared.Call.TheVariants.{Afford}
use Rattle.account.specs.Whole.{sound}
use Rattle.account.specs.Calls.{accepts, step}
use Rattle.account.specs.Answers.{open_answer, afford_of, Affordable}

-- afford-1, promise-2: what Afford answers is accepted, and none of more is
abbrev pub AffordIsLargest : Type 0
AffordIsLargest = (a : Account) (k : Kind) → Affordable a k (afford_of a k)

-- afford-1: Afford leaves the account as it is
abbrev pub AffordChangesNothing : Type 0
AffordChangesNothing = (a : Account) (k : Kind) → step a (Afford k) ≡ a

-- order-2: a refused call leaves the account as it is
abbrev pub RefusedChangesNothing : Type 0
RefusedChangesNothing = (a : Account) (c : Call) → accepts a c ≡ false → step a c ≡ a

-- account-3, order-2: Open hands out a sound account where it accepts, else one that every call refuses with 0
pub record OpensSound (p : Plan) : Type 0 where
  pub taken : (open_answer p).answer ≡ Ok tt → sound (open_answer p).account ≡ true
  pub refused : (r : Refusal) → (open_answer p).answer ≡ Err r → sound (open_answer p).account ≡ false

-- account-3, order-2: for every plan
abbrev pub OpenTellsSound : Type 0
OpenTellsSound = (p : Plan) → OpensSound p
