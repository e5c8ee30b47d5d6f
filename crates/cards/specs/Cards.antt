-- The cards of a family box: what a card holds, the units of all together, when they are sound, and what a use, a
-- month's first day and the opening make of them (family-2 to family-8, family-11, family-14, form-9). Choice
-- (docs/DECISIONS.md, "Family box"): the month of a card. Assumes nothing.
use Rattle.std.specs.Prelude.{ℕ, ◌+◌, Bool, true, ◌&&◌, List, [], ◌∷◌, leb, get_or, set}
use Rattle.tariff.specs.declared.Units.{Units}
use Rattle.tariff.specs.Units.{zero_units, ◌⊕◌}
use Rattle.cards.specs.declared.Card.{Card}

-- aid: what is read where there is no card
abbrev pub no_card : Card
no_card = record { lifetime = zero_units; monthly = 0; allowance = 0 }

-- family-8: the lifetime units of all cards together
unfoldable pub cards_units : List Card → Units
cards_units [] = zero_units
cards_units (c ∷ cs) = c.lifetime ⊕ cards_units cs

-- family-3: an allowance is at most 1,000,000,000,000
abbrev pub allowance_fits : ℕ → Bool
allowance_fits n = leb n 1000000000000

-- family-3, family-14: each card's allowance is in range
unfoldable pub allowances_fit : List Card → Bool
allowances_fit [] = true
allowances_fit (c ∷ cs) = allowance_fits c.allowance && allowances_fit cs

-- family-11: monthly kB within lifetime kB and allowance, and the allowance in range
abbrev pub card_sound : Card → Bool
card_sound c = leb c.monthly c.lifetime.kb && leb c.monthly c.allowance && allowance_fits c.allowance

-- family-11: every card is sound
unfoldable pub cards_sound : List Card → Bool
cards_sound [] = true
cards_sound (c ∷ cs) = card_sound c && cards_sound cs

-- family-2, family-6: a card after a use: its lifetime units and, at whatever place, its kB of the month
abbrev pub used : Card → Units → Card
used c u = record { lifetime = c.lifetime ⊕ u; monthly = c.monthly + u.kb; allowance = c.allowance }

-- family-6, family-7, form-9: the card at place i is used, and every other stays
unfoldable pub use_at : List Card → ℕ → Units → List Card
use_at cs i u = set cs i (used (get_or cs i no_card) u)

-- family-4: a card at the beginning of a month
abbrev pub cleared : Card → Card
cleared c = record { lifetime = c.lifetime; monthly = 0; allowance = c.allowance }

-- family-3: a card of a box that is opened: its allowance, and no use yet
abbrev pub fresh : Card → Card
fresh c = record { lifetime = zero_units; monthly = 0; allowance = c.allowance }
