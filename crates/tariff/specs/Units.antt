-- A number for each of the four kinds of use (unit-2), with sum, product and order, kind by kind. Choice
-- (docs/DECISIONS.md, "Account"): priced units have a place for incoming seconds, which stays 0 (priced incoming
-- seconds). Assumes nothing.
use Rattle.std.specs.Prelude.{ℕ, ◌+◌, ◌*◌, ◌≤◌, Bool, ◌&&◌, leb, eqb}
use Rattle.tariff.specs.declared.Units.{Units}
use Rattle.tariff.specs.declared.Kind.{Kind}
use Rattle.tariff.specs.declared.Kind.TheVariants.{Data, Outgoing, Incoming, Sms}

-- unit-2: kB, seconds out, seconds in, SMS
abbrev pub each : ℕ → ℕ → ℕ → ℕ → Units
each d o i s = record { kb = d; outgoing = o; incoming = i; sms = s }

-- aid: no units of any kind
abbrev pub zero_units : Units
zero_units = each 0 0 0 0

-- aid: the sum, kind by kind
infixl 65 ◌⊕◌
abbrev pub ◌⊕◌ : Units → Units → Units
u ⊕ v = each (u.kb + v.kb) (u.outgoing + v.outgoing) (u.incoming + v.incoming) (u.sms + v.sms)

-- aid: the product, kind by kind
infixl 70 ◌⊗◌
abbrev pub ◌⊗◌ : Units → Units → Units
u ⊗ v = each (u.kb * v.kb) (u.outgoing * v.outgoing) (u.incoming * v.incoming) (u.sms * v.sms)

-- unit-2: n units of one kind, none of the others
abbrev pub only : Kind → ℕ → Units
only Data n = each n 0 0 0
only Outgoing n = each 0 n 0 0
only Incoming n = each 0 0 n 0
only Sms n = each 0 0 0 n

-- unit-2: the units of one kind
abbrev pub of_kind : Kind → Units → ℕ
of_kind Data u = u.kb
of_kind Outgoing u = u.outgoing
of_kind Incoming u = u.incoming
of_kind Sms u = u.sms

-- aid: u is at most v in each kind, as a test
abbrev pub fits : Units → Units → Bool
fits u v = leb u.kb v.kb && leb u.outgoing v.outgoing && leb u.incoming v.incoming
    && leb u.sms v.sms

-- aid: no units of any kind, as a test
abbrev pub no_units : Units → Bool
no_units u = eqb u.kb 0 && eqb u.outgoing 0 && eqb u.incoming 0 && eqb u.sms 0

-- aid: u is at most v in each kind, as a fact
pub record AtMost (u v : Units) : Type 0 where
  pub kb : u.kb ≤ v.kb
  pub outgoing : u.outgoing ≤ v.outgoing
  pub incoming : u.incoming ≤ v.incoming
  pub sms : u.sms ≤ v.sms

-- aid: what keeps a sum or a product within the machine's numbers
abbrev pub most_held : Units
most_held = each 1000000000000000000 1000000000000000000 1000000000000000000 1000000000000000000

-- aid: u and v can be added
abbrev pub Adds : Units → Units → Type 0
Adds u v = AtMost (u ⊕ v) most_held

-- aid: u and v can be multiplied
abbrev pub Multiplies : Units → Units → Type 0
Multiplies u v = AtMost (u ⊗ v) most_held
