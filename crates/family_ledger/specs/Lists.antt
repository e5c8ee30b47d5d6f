-- Lists of calls on a family box: what a call takes of the box, by cards, and the box as a state of `machine`
-- (family-9, family-10, list-1, list-2, list-5, list-8, half-8). No choice matters here. Assumes nothing.
use Rattle.std.specs.Prelude.{ℕ, ◌+◌, cond, List, eqb}
use Rattle.tariff.specs.declared.Units.{Units}
use Rattle.tariff.specs.Units.{zero_units, ◌⊕◌, only}
use Rattle.family.specs.declared.BoxCall.{BoxCall}
use Rattle.family.specs.declared.BoxCall.TheVariants.{Register, Use, TopUp, NextDay, Afford}
use Rattle.family.specs.Box.{Box, plain, box_accepts, box_after}
use Rattle.machine.specs.Machine as machine
use Rattle.machine.specs.Machine.{Machine}
use Rattle.ledger.specs.Lists.{is_boundary, seconds_of}

-- family-10, list-8: the units of a call, for each card by its place: only a use has any, at the place that it names
unfoldable pub card_units : BoxCall → ℕ → Units
card_units (Register p) j = zero_units
card_units (Use i k n) j = cond (eqb j i) (only k n) zero_units
card_units (TopUp n) j = zero_units
card_units NextDay j = zero_units
card_units (Afford i k) j = zero_units

-- family-10, half-8: what stretches are compared by: each card's units, by its place, and the charged seconds of all
pub record BoxTaken : Type 0 where
  pub units : ℕ → Units
  pub seconds : ℕ

-- family-10, half-8: what a call takes of a box; its charged seconds are those of the account's call
abbrev pub box_taken : Box → BoxCall → BoxTaken
box_taken b c = record { units = card_units c; seconds = seconds_of b.account.state.place (plain c) }

-- aid: nothing of any card
abbrev pub none_of_box : BoxTaken
none_of_box = record { units = λ j. zero_units; seconds = 0 }

-- family-10, list-8: both together, card by card
abbrev pub both_of_box : BoxTaken → BoxTaken → BoxTaken
both_of_box t v = record { units = λ j. t.units j ⊕ v.units j; seconds = t.seconds + v.seconds }

-- family-10, list-1, list-5: the box as a state that calls are made on; its cuts are those of the account's calls
abbrev pub box_calls : Machine
box_calls = record {
  State = Box;
  Call = BoxCall;
  Units = BoxTaken;
  accepts = box_accepts;
  after = box_after;
  is_boundary = λ c. is_boundary (plain c);
  units_of = box_taken;
  none = none_of_box;
  plus = both_of_box;
}

-- family-9, list-2: the box after a list of calls, each of which hands on account and cards
abbrev pub box_run : Box → List BoxCall → Box
box_run b cs = machine.run box_calls b cs
