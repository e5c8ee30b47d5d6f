-- A family box, the common account with its cards: when it is sound, what its calls decline, and what they make of it
-- (family-1, family-2, family-4 to family-9, family-11 to family-13). Choices (docs/DECISIONS.md, "Family box"): calls
-- that name no card; the order of a use's refusals; the month of a card; a card's sums. Assumes nothing.
use Rattle.std.specs.Prelude.{ℕ, ◌+◌, Bool, true, false, not, cond, ◌&&◌, ◌||◌, List, [], ◌∷◌, map, ltb, eqb, length, get_or, Result, ⊤}
use Rattle.calendar.specs.Calendar.{starts_month}
use Rattle.tariff.specs.declared.Units.{Units}
use Rattle.tariff.specs.declared.Kind.{Kind}
use Rattle.tariff.specs.declared.Kind.TheVariants.{Data, Outgoing, Incoming, Sms}
use Rattle.tariff.specs.Refusal.{refusal_number}
use Rattle.tariff.specs.Tests.{Reason, because, verdict_of, is_accepted}
use Rattle.tariff.specs.Units.{only}
use Rattle.state.specs.declared.State.{State}
use Rattle.account.specs.declared.Account.{Account}
use Rattle.account.specs.declared.Call.{Call}
use Rattle.account.specs.declared.Call.TheVariants as plain-call
use Rattle.account.specs.Whole.{sound}
use Rattle.account.specs.Calls.{own_reasons, after}
use Rattle.account.specs.Answers.{account_of}
use Rattle.cards.specs.declared.Card.{Card}
use Rattle.cards.specs.Cards.{no_card, cards_units, cards_sound, use_at, cleared}
use Rattle.family.specs.declared.BoxCall.{BoxCall}
use Rattle.family.specs.declared.BoxCall.TheVariants.{Register, Use, TopUp, NextDay, Afford}
use Rattle.tariff.specs.declared.Refusal.{Refusal}
use Rattle.tariff.specs.declared.Refusal.TheVariants.{Unsound, CardPlace, CardAllowance}

-- family-1, family-5: the account is common: plan, money, H, R, L, log and states; the cards are a list
pub record Box : Type 0 where
  pub account : Account
  pub cards : List Card

-- aid: a box from its two parts
abbrev pub box_of : Account → List Card → Box
box_of a cs = record { account = a; cards = cs }

-- aid: a box from all of the account but its log, the log, and the cards
abbrev pub box_with : State → List ℕ → List Card → Box
box_with s l cs = box_of (account_of s l) cs

-- family-5: the account's call that a call on the box comes to
unfoldable pub plain : BoxCall → Call
plain (Register p) = plain-call.Register p
plain (Use i k n) = plain-call.Use k n
plain (TopUp n) = plain-call.TopUp n
plain NextDay = plain-call.NextDay
plain (Afford i k) = plain-call.Afford k

-- aid: the units agree in every kind
abbrev pub same_units : Units → Units → Bool
same_units u v = eqb u.kb v.kb && eqb u.outgoing v.outgoing && eqb u.incoming v.incoming
    && eqb u.sms v.sms

-- family-11, family-8: the account is sound, the cards' units are the account's, and each card is sound
unfoldable pub box_sound : Box → Bool
box_sound b = sound b.account
    && (same_units (cards_units b.cards) b.account.state.meters.lifetime && cards_sound b.cards)

-- family-1, family-7, family-12: among n cards there is none at the named place, or n is over 16
unfoldable pub no_such_card : BoxCall → ℕ → Bool
no_such_card (Register p) n = ltb 16 n
no_such_card (Use i k m) n = not (ltb i n) || ltb 16 n
no_such_card (TopUp m) n = ltb 16 n
no_such_card NextDay n = ltb 16 n
no_such_card (Afford i k) n = not (ltb i n) || ltb 16 n

-- aid: the kind is data
abbrev pub is_data : Kind → Bool
is_data Data = true
is_data Outgoing = false
is_data Incoming = false
is_data Sms = false

-- family-13: data beyond the card's monthly allowance
unfoldable pub beyond : Card → Kind → ℕ → Bool
beyond c k n = is_data k && ltb c.allowance (c.monthly + n)

-- aid: the reasons with r put before the one of number m
unfoldable pub before : ℕ → Reason → List Reason → List Reason
before m r [] = r ∷ []
before m r (x ∷ xs) = cond (eqb (refusal_number x.refusal) m) (r ∷ x ∷ xs) (x ∷ before m r xs)

-- family-13: of a use, 20 stands before 6, and so after 5
unfoldable pub with_allowance : List Card → BoxCall → List Reason → List Reason
with_allowance cs (Register p) rs = rs
with_allowance cs (Use i k n) rs = before 6 (because CardAllowance (beyond (get_or cs i no_card) k n)) rs
with_allowance cs (TopUp n) rs = rs
with_allowance cs NextDay rs = rs
with_allowance cs (Afford i k) rs = rs

-- family-11, family-12, family-13, order-3: 0, then 19, then the account's own reasons, with 20 among a use's
unfoldable pub box_reasons : Box → BoxCall → List Reason
box_reasons b c =
    because Unsound (not (box_sound b))
    ∷ because CardPlace (no_such_card c (length b.cards))
    ∷ with_allowance b.cards c (own_reasons b.account (plain c))

-- order-1: the first number whose reason holds
unfoldable pub box_verdict : Box → BoxCall → Result ⊤ Refusal
box_verdict b c = verdict_of (box_reasons b c)

-- list-3: no reason holds
unfoldable pub box_accepts : Box → BoxCall → Bool
box_accepts b c = is_accepted (box_verdict b c)

-- family-2, family-4, family-6: what an accepted call makes of the cards: a use, at whatever place, changes one, and a
-- month's first day clears the month of each, under every form of plan
unfoldable pub cards_after : Box → BoxCall → List Card
cards_after b (Register p) = b.cards
cards_after b (Use i k n) = use_at b.cards i (only k n)
cards_after b (TopUp n) = b.cards
cards_after b NextDay = cond (starts_month (b.account.state.day + 1)) (map cleared b.cards) b.cards
cards_after b (Afford i k) = b.cards

-- family-5, family-6: what an accepted call makes of the box
unfoldable pub box_after : Box → BoxCall → Box
box_after b c = record { account = after b.account (plain c); cards = cards_after b c }

-- order-2, family-9: a refused call leaves account and cards as they were
unfoldable pub box_step : Box → BoxCall → Box
box_step b c = cond (box_accepts b c) (box_after b c) b
