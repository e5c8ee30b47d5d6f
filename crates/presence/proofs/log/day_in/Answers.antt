-- `presence::log::day_in` meets its contract. Assumes nothing.
use lib.Seq.{get_or-drop}
use native.Mathlib.Nat.{add_assoc, add-zero}
use Rattle.presence.specs.Log.{day_from}
use Rattle.presence.proofs.log.day_in.Goals as goal

pub returns : goal.returns
unfolding day_from
returns c = simp (c.marked_day.ensures, c.units_at.ensures, c.units_at-2.ensures, c.units_at-3.ensures, get_or-drop, add_assoc, add-zero)
