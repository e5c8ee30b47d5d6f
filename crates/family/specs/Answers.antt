-- What opening a box and the calls on it answer, beside the account and the cards that they leave (family-1, family-3,
-- family-5, family-7, family-14, afford-1). Choice (docs/DECISIONS.md, "Family box"): a refused opening. Assumes nothing.
use Rattle.std.specs.Prelude.{ℕ, not, cond, ◌||◌, List, [], ◌∷◌, ◌++◌, map, ltb, eqb, length, Result, ⊤}
use Rattle.tariff.specs.declared.Kind.{Kind}
use Rattle.tariff.specs.declared.Plan.{Plan}
use Rattle.tariff.specs.Tests.{Reason, because, verdict_of, is_accepted}
use Rattle.tariff.specs.Plan.{plan_reasons}
use Rattle.state.specs.declared.Outcome.{Outcome}
use Rattle.state.specs.declared.Outcome.TheVariants.{UpTo}
use Rattle.state.specs.Reasons.{answer_by}
use Rattle.account.specs.declared.Applied.{Applied}
use Rattle.account.specs.declared.StateOpened.{StateOpened}
use Rattle.account.specs.Whole.{opened}
use Rattle.account.specs.Largest.{largest}
use Rattle.account.specs.Answers.{no_plan, accepted_answer}
use Rattle.cards.specs.declared.Card.{Card}
use Rattle.cards.specs.Cards.{allowances_fit, fresh}
use Rattle.family.specs.declared.BoxCall.{BoxCall}
use Rattle.family.specs.declared.BoxCall.TheVariants.{Register, Use, TopUp, NextDay, Afford}
use Rattle.family.specs.Box.{Box, box_of, plain, box_verdict, box_accepts, box_step}
use Rattle.tariff.specs.declared.Refusal.{Refusal}
use Rattle.tariff.specs.declared.Refusal.TheVariants.{CardPlace, CardAllowance}

-- family-1, family-3, family-14: 19 for no card or over 16, then 20 for an allowance out of range
unfoldable pub card_reasons : List Card → List Reason
card_reasons cs =
    because CardPlace (eqb (length cs) 0 || ltb 16 (length cs))
    ∷ because CardAllowance (not (allowances_fit cs))
    ∷ []

-- family-14, order-4: the plan's reasons, then those of the cards
unfoldable pub open_reasons : Plan → List Card → List Reason
open_reasons p cs = plan_reasons p ++ card_reasons cs

-- family-14: the first number whose reason holds
unfoldable pub open_verdict : Plan → List Card → Result ⊤ Refusal
open_verdict p cs = verdict_of (open_reasons p cs)

-- aid: what opening answers, with the box
pub record BoxOpened : Type 0 where
  pub answer : Result ⊤ Refusal
  pub box : Box

-- family-3, family-14: a new account, and cards with their allowances and nothing else; a refusal leaves the cards
unfoldable pub open_box : Plan → List Card → BoxOpened
open_box p cs = record {
  answer = open_verdict p cs;
  box = cond (is_accepted (open_verdict p cs)) (box_of (opened p) (map fresh cs)) (box_of (opened no_plan) cs);
}

-- aid: the same answer with all of the account but its log, which is empty
abbrev pub box_parts : BoxOpened → StateOpened
box_parts x = record { answer = x.answer; state = x.box.account.state }

-- afford-1, family-7: the greatest use of the card that is accepted, 0 if none
unfoldable pub box_afford : Box → ℕ → Kind → ℕ
box_afford b i k = largest (λ n. box_accepts b (Use i k n)) 1000000000

-- use-14, afford-1, form-8: what an accepted call answers: Afford the card's number, other calls what the account does
unfoldable pub box_answer : Box → BoxCall → Outcome
box_answer b (Register p) = accepted_answer b.account (plain (Register p))
box_answer b (Use i k n) = accepted_answer b.account (plain (Use i k n))
box_answer b (TopUp n) = accepted_answer b.account (plain (TopUp n))
box_answer b NextDay = accepted_answer b.account (plain NextDay)
box_answer b (Afford i k) = UpTo (box_afford b i k)

-- family-5, order-2: a call's answer and account; what it makes of the cards is `box_step`
unfoldable pub box_applied : Box → BoxCall → Applied
box_applied b c = record { answer = answer_by (box_verdict b c) (box_answer b c); account = (box_step b c).account }
