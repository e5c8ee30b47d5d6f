-- `presence::window::sum_last` goes on over one day less.
use Rattle.presence.proofs.window.+sum_last.Given as goal

abbrev pub decreases-sum_last : goal.decreases-sum_last
decreases-sum_last g l = l.w
