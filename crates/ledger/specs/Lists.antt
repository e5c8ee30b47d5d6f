-- Lists of calls on an account: which calls are cuts, and what a call adds to its stretch (list-2, list-5, list-8,
-- half-8). Choice (docs/DECISIONS.md, "Afford"): in the book. Assumes nothing.
use Rattle.std.specs.Prelude.{ℕ, ◌+◌, Bool, true, false, List, Option}
use Rattle.tariff.specs.declared.Units.{Units}
use Rattle.tariff.specs.Units.{zero_units, ◌⊕◌, only}
use Rattle.state.specs.Use.{charged_units}
use Rattle.account.specs.declared.Account.{Account}
use Rattle.account.specs.declared.Call.{Call}
use Rattle.account.specs.declared.Call.TheVariants.{Register, Use, TopUp, NextDay, Afford}
use Rattle.account.specs.Calls.{accepts, after}
use Rattle.machine.specs.Machine as machine
use Rattle.machine.specs.Machine.{Machine}
use Rattle.tariff.specs.declared.Place.{Place}

-- list-5, list-8: what a call is by itself: units, seconds as spoken; points paid in; does it mark the day; is it a cut
pub record Meaning : Type 0 where
  pub units : Units
  pub points : ℕ
  pub marks : Bool
  pub cuts : Bool

-- aid: a row of the table below
abbrev row : Units → ℕ → Bool → Bool → Meaning
row u n m c = record { units = u; points = n; marks = m; cuts = c }

-- list-5, list-8, book-6, book-10: the table of calls
abbrev pub meaning : Call → Meaning
meaning (Register p) = row zero_units 0 true true
meaning (Use k n) = row (only k n) 0 true false
meaning (TopUp n) = row zero_units n false true
meaning NextDay = row zero_units 0 false true
meaning (Afford k) = row zero_units 0 false false

-- list-5: the call is a cut, if it is accepted
unfoldable pub is_boundary : Call → Bool
is_boundary c = (meaning c).cuts

-- list-8: the units of a call
unfoldable pub units_of : Call → Units
units_of c = (meaning c).units

-- book-6: the points that a call pays in
unfoldable pub amount_of : Call → ℕ
amount_of c = (meaning c).points

-- book-10: the call marks the day with its place
unfoldable pub marks : Call → Bool
marks c = (meaning c).marks

-- half-8: the outgoing seconds that a call is charged for at a place
unfoldable pub seconds_of : Option Place → Call → ℕ
seconds_of w (Register p) = 0
seconds_of w (Use k n) = (charged_units w k n).outgoing
seconds_of w (TopUp n) = 0
seconds_of w NextDay = 0
seconds_of w (Afford k) = 0

-- half-8: what stretches are compared by, units and charged seconds
pub record Taken : Type 0 where
  pub units : Units
  pub seconds : ℕ

-- half-8: what a call takes of an account, by its place
abbrev pub taken : Account → Call → Taken
taken a c = record { units = units_of c; seconds = seconds_of a.state.place c }

-- aid: nothing, as a call takes that is no use
abbrev pub none_taken : Taken
none_taken = record { units = zero_units; seconds = 0 }

-- list-8, half-8: both together, kind by kind
abbrev pub both_taken : Taken → Taken → Taken
both_taken t v = record { units = t.units ⊕ v.units; seconds = t.seconds + v.seconds }

-- list-1: the account as a state that calls are made on
abbrev pub account_calls : Machine
account_calls = record {
  State = Account;
  Call = Call;
  Units = Taken;
  accepts = accepts;
  after = after;
  is_boundary = is_boundary;
  units_of = taken;
  none = none_taken;
  plus = both_taken;
}

-- list-2: the account after a list of calls on it
abbrev pub run : Account → List Call → Account
run a cs = machine.run account_calls a cs
