-- What inner functions work out of a call, by what one pass over the cards found. No contract of an entry point cites
-- these definitions: proofs/Ties ties them to those of `Box` and `Answers`. Assumes nothing.
use Rattle.std.specs.Prelude.{ℕ, ◌-◌, min, Bool, false, not, cond, ◌&&◌, ◌||◌, List, [], ◌∷◌, ◌++◌, ltb, eqb, Some, None, is_none, unwrap_or, Result, Ok, Err, ⊤}
use Rattle.calendar.specs.Calendar.{starts_month}
use Rattle.tariff.specs.declared.Kind.{Kind}
use Rattle.tariff.specs.declared.Kind.TheVariants.{Data, Outgoing, Incoming, Sms}
use Rattle.tariff.specs.declared.Plan.{Plan}
use Rattle.tariff.specs.Refusal.{refusal_number}
use Rattle.tariff.specs.Tests.{Reason, because, verdict_of, is_accepted}
use Rattle.tariff.specs.Plan.{plan_reasons}
use Rattle.tariff.specs.Units.{only}
use Rattle.state.specs.declared.State.{State}
use Rattle.state.specs.declared.Outcome.{Outcome}
use Rattle.state.specs.declared.Outcome.TheVariants.{Done, Charged, UpTo}
use Rattle.state.specs.declared.StateApplied.{StateApplied}
use Rattle.state.specs.Reasons.{is_taken}
use Rattle.account.specs.declared.Account.{Account}
use Rattle.account.specs.declared.Applied.{Applied}
use Rattle.account.specs.declared.StateOpened.{StateOpened}
use Rattle.account.specs.Whole.{sound, opened}
use Rattle.account.specs.Answers.{no_plan, applied, account_of, applied_state}
use Rattle.cards.specs.declared.Card.{Card}
use Rattle.cards.specs.declared.Survey.{Survey}
use Rattle.cards.specs.declared.Change.{Change}
use Rattle.cards.specs.declared.Renewal.TheVariants.{Month, Life}
use Rattle.cards.specs.Cards.{no_card}
use Rattle.cards.specs.Survey.{held_used}
use Rattle.family.specs.declared.BoxCall.{BoxCall}
use Rattle.family.specs.declared.BoxCall.TheVariants.{Register, Use, TopUp, NextDay, Afford}
use Rattle.family.specs.Box.{plain, same_units, beyond}
use Rattle.tariff.specs.declared.Refusal.{Refusal}
use Rattle.tariff.specs.declared.Refusal.TheVariants.{Unsound, CardPlace, CardAllowance}

-- aid: the place of the card that a call names, else the first
abbrev pub card_place : BoxCall → ℕ
card_place (Register p) = 0
card_place (Use i k n) = i
card_place (TopUp n) = 0
card_place NextDay = 0
card_place (Afford i k) = i

-- aid: the cards' part of soundness
abbrev pub cards_fit : State → Survey → Bool
cards_fit a s = same_units s.total a.meters.lifetime && s.ordered

-- aid: the card that was found, or what is read where there is none
abbrev pub card_read : Survey → Card
card_read s = unwrap_or s.card no_card

-- aid: no card at the named place, or over 16
abbrev pub card_missing : Survey → BoxCall → Bool
card_missing s (Register p) = ltb 16 s.count
card_missing s (Use i k n) = is_none s.card || ltb 16 s.count
card_missing s (TopUp n) = ltb 16 s.count
card_missing s NextDay = ltb 16 s.count
card_missing s (Afford i k) = is_none s.card || ltb 16 s.count

-- aid: 0, 3, 4 and 5 come before 20
abbrev pub beyond_refusal : Result Outcome Refusal → Refusal
beyond_refusal (Ok x) = CardAllowance
beyond_refusal (Err r) = cond (ltb (refusal_number r) 6) r CardAllowance

-- aid: how much of a kind the card may use; no use has over 1,000,000,000 units
abbrev pub room_of : Card → Kind → ℕ
room_of c Data = c.allowance - c.monthly
room_of c Outgoing = 1000000000
room_of c Incoming = 1000000000
room_of c Sms = 1000000000

-- aid: no more than r
abbrev pub answer_within : Result Outcome Refusal → ℕ → Result Outcome Refusal
answer_within (Ok Done) r = Ok Done
answer_within (Ok (Charged c)) r = Ok (Charged c)
answer_within (Ok (UpTo n)) r = Ok (UpTo (min n r))
answer_within (Err e) r = Err e

-- aid: refused, with all of the account but its log as it was
abbrev pub declined_state : State → Refusal → StateApplied
declined_state a r = record { answer = Err r; state = a }

-- aid: what the account made of a call, as the card allows
abbrev pub within_card : State → StateApplied → Card → BoxCall → StateApplied
within_card a x d (Register p) = x
within_card a x d (Use i k n) = cond (beyond d k n) (declined_state a (beyond_refusal x.answer)) x
within_card a x d (TopUp n) = x
within_card a x d NextDay = x
within_card a x d (Afford i k) = record { answer = answer_within x.answer (room_of d k); state = x.state }

-- aid: the account with another state, and the log that the call left
abbrev pub with_log : Account → StateApplied → Applied
with_log a x = record { answer = x.answer; account = account_of x.state a.log }

-- aid: a call's answer and account
unfoldable pub seen_applied : Account → Survey → BoxCall → Applied
seen_applied a s c =
    cond (not (cards_fit a.state s)) (with_log a (declined_state a.state Unsound))
    (cond (card_missing s c) (with_log a (declined_state a.state (cond (sound a) CardPlace Unsound)))
    (with_log (applied a (plain c)).account
    (within_card a.state (applied_state (applied a (plain c))) (card_read s) c)))

-- aid: the named card after an accepted call
abbrev pub card_after : Card → BoxCall → Card
card_after d (Register p) = d
card_after d (Use i k n) = held_used d (only k n)
card_after d (TopUp n) = d
card_after d NextDay = d
card_after d (Afford i k) = d

-- aid: the call led to a day, and that begins a month
abbrev pub month_turns : BoxCall → ℕ → Bool
month_turns (Register p) d = false
month_turns (Use i k n) d = false
month_turns (TopUp n) d = false
month_turns NextDay d = starts_month d
month_turns (Afford i k) d = false

-- aid: the cards stay
abbrev pub no_change : ℕ → Survey → Change
no_change i s = record { place = i; card = card_read s; renewal = None }

-- aid: what a call makes of the cards
abbrev pub seen_change : StateApplied → Survey → BoxCall → Change
seen_change x s c = record {
  place = card_place c;
  card = cond (is_taken x.answer) (card_after (card_read s) c) (card_read s);
  renewal = cond (is_taken x.answer && month_turns c x.state.day) (Some Month) None;
}

-- aid: an opening that is refused with r
abbrev pub unopened_with : Refusal → StateOpened
unopened_with r = record { answer = Err r; state = (opened no_plan).state }

-- aid: what the cards decline an opening with
unfoldable pub found_reasons : Survey → List Reason
found_reasons s = because CardPlace (eqb s.count 0 || ltb 16 s.count) ∷ because CardAllowance (not s.allowed) ∷ []

-- aid: opening, by the count of the cards and their allowances
unfoldable pub seen_verdict : Plan → Survey → Result ⊤ Refusal
seen_verdict p s = verdict_of (plan_reasons p ++ found_reasons s)

-- aid: the same with all of the account but its log
unfoldable pub seen_opened : Plan → Survey → StateOpened
seen_opened p s = record {
  answer = seen_verdict p s;
  state = (cond (is_accepted (seen_verdict p s)) (opened p) (opened no_plan)).state;
}

-- aid: what opening makes of the cards
abbrev pub opening_change : Result ⊤ Refusal → Survey → Change
opening_change v s = record { place = 0; card = card_read s; renewal = cond (is_accepted v) (Some Life) None }
