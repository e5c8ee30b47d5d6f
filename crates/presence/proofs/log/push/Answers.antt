-- `presence::log::push` meets its contract. Assumes nothing.
use Rattle.std.proofs.Common.{refl}
use Rattle.presence.specs.Log.{logged_with, numbers_of}
use Rattle.presence.proofs.Shift.{shifted}
use Rattle.presence.proofs.log.push.Goals as goal

pub returns : goal.returns
unfolding logged_with numbers_of
returns c =
    rw (c.copy_from_slice.ensures.after, c.numbers.ensures, c.copy_within.ensures.after, shifted c.args.log.now c.told-log) refl
