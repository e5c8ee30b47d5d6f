-- `presence::log::tally` meets its contract. Assumes nothing.
use native.Mathlib.Omega.{arith}
use Rattle.presence.proofs.Within.{over_room}
use Rattle.presence.proofs.log.tally.Goals as goal

pub add_day-sum-requires : goal.add_day-sum-requires
add_day-sum-requires c =
    let a = c.args in
    let i = c.loop-i.i in
    (rw c.loop-i.invariant (over_room i a.n a.log.now c.requires.0 (omega arith) c.requires.1), rw c.day_at.ensures (c.requires.1 i (omega arith)))
