-- The cards before the index are renewed.
use Rattle.std.proofs.Common.{◌≡◌, ◌++◌, map, take, drop}
use Rattle.cards.specs.Survey.{renewed}
use Rattle.cards.proofs.renew_all.Given as goal

abbrev pub invariant-loop-card : goal.invariant-loop-card
invariant-loop-card l =
    l.cards ≡ map (renewed l.renewal) (take l.card-index l.initial.cards) ++ drop l.card-index l.initial.cards
