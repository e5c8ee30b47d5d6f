-- What inner functions find in one pass over the cards, and how they tell what becomes of them. No contract of an entry
-- point cites these definitions: proofs/Passes ties them to those of `Cards`. Assumes nothing.
use Rattle.std.specs.Prelude.{ℕ, ◌+◌, ◌-◌, min, true, cond, ◌&&◌, Option, Some, None, is_some, List, map, fold, eqb, set}
use Rattle.std.specs.Option.{option_or}
use Rattle.tariff.specs.declared.Units.{Units}
use Rattle.tariff.specs.Units.{each, zero_units}
use Rattle.cards.specs.declared.Card.{Card}
use Rattle.cards.specs.declared.Survey.{Survey}
use Rattle.cards.specs.declared.Change.{Change}
use Rattle.cards.specs.declared.Renewal.{Renewal}
use Rattle.cards.specs.declared.Renewal.TheVariants.{Month, Life}
use Rattle.cards.specs.Cards.{allowance_fits, card_sound, cleared, fresh}

-- aid: no card yet, and the one at place i is looked for
abbrev pub start : ℕ → Survey
start i = record {
  count = 0;
  total = zero_units;
  ordered = true;
  allowed = true;
  ahead = i;
  card = None;
}

-- aid: a sum held at 1,000,000,000,001, one more than a sound account's lifetime units
abbrev pub held_sum : Units → Units → Units
held_sum u v = each
    (min (u.kb + v.kb) 1000000000001)
    (min (u.outgoing + v.outgoing) 1000000000001)
    (min (u.incoming + v.incoming) 1000000000001)
    (min (u.sms + v.sms) 1000000000001)

-- aid: one card more
unfoldable pub survey_with : Survey → Card → Survey
survey_with s c = record {
  count = min (s.count + 1) 17;
  total = held_sum s.total c.lifetime;
  ordered = s.ordered && card_sound c;
  allowed = s.allowed && allowance_fits c.allowance;
  ahead = cond (is_some s.card) s.ahead (s.ahead - 1);
  card = option_or s.card (cond (eqb s.ahead 0) (Some c) None);
}

-- aid: all cards of a list
unfoldable pub survey_of : Survey → List Card → Survey
survey_of s cs = fold survey_with s cs

-- aid: a card after a use, its sums held; in a sound box it is `used`
abbrev pub held_used : Card → Units → Card
held_used c u = record {
  lifetime = held_sum c.lifetime u;
  monthly = min (c.monthly + u.kb) 1000000000001;
  allowance = c.allowance;
}

-- aid: a card at the beginning of a month or of its life
abbrev pub renewed : Renewal → Card → Card
renewed Month c = cleared c
renewed Life c = fresh c

-- aid: all cards renewed, or none
abbrev pub renewed_by : Option Renewal → List Card → List Card
renewed_by None cs = cs
renewed_by (Some r) cs = map (renewed r) cs

-- aid: what becomes of a list of cards
unfoldable pub changed : Change → List Card → List Card
changed h cs = renewed_by h.renewal (set cs h.place h.card)
