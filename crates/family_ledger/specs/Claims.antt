-- What else holds of every family box: which cards a call can change, what Afford of a card answers, and that a box
-- with one card of the largest allowance is the plain account (family-3, family-5 to family-7, family-9, family-13,
-- family-14, afford-1, order-2). No choice matters here. Assumes nothing.
use Rattle.std.specs.Prelude.{ℕ, ◌<◌, ◌≡◌, true, false, List, [], ◌∷◌, map, length, get_or, Result}
use Rattle.tariff.specs.declared.Kind.{Kind}
use Rattle.tariff.specs.declared.Plan.{Plan}
use Rattle.tariff.specs.declared.Refusal.{Refusal}
use Rattle.state.specs.declared.Outcome.{Outcome}
use Rattle.account.specs.declared.Account.{Account}
use Rattle.account.specs.declared.Call.{Call}
use Rattle.account.specs.declared.Call.TheVariants as plain-call
use Rattle.account.specs.Calls.{step}
use Rattle.account.specs.Answers.{open_answer, applied}
use Rattle.cards.specs.declared.Card.{Card}
use Rattle.cards.specs.Cards.{no_card}
use Rattle.family.specs.declared.BoxCall.{BoxCall}
use Rattle.family.specs.declared.BoxCall.TheVariants.{Register, Use, TopUp, NextDay, Afford}
use Rattle.family.specs.Box.{Box, box_of, box_sound, box_accepts, box_step}
use Rattle.family.specs.Answers.{open_box, box_afford, box_applied}
use Rattle.ledger.specs.Lists.{run}
use Rattle.family_ledger.specs.Lists.{box_run}

-- family-6, form-9, order-2: a use of one card leaves every other; a refused call leaves the whole box
pub record OtherCardsStay : Type 0 where
  pub others : (b : Box) (i j : ℕ) (k : Kind) (n : ℕ) → (j ≡ i → ⊥)
      → get_or (box_step b (Use i k n)).cards j no_card ≡ get_or b.cards j no_card
  pub refused : (b : Box) (c : BoxCall) → box_accepts b c ≡ false → box_step b c ≡ b

-- family-3, family-9: through every list of calls the cards stay as many, each with its allowance
pub record AllowancesStay : Type 0 where
  pub counted : (b : Box) (cs : List BoxCall) → length (box_run b cs).cards ≡ length b.cards
  pub fixed : (b : Box) (cs : List BoxCall) (j : ℕ)
      → (get_or (box_run b cs).cards j no_card).allowance ≡ (get_or b.cards j no_card).allowance

-- afford-1, family-7: a use of r units of the card is accepted, unless r is 0, and none larger is
pub record CardAffordable (b : Box) (i : ℕ) (k : Kind) (r : ℕ) : Type 0 where
  pub passes : 0 < r → box_accepts b (Use i k r) ≡ true
  pub none_larger : (m : ℕ) → r < m → box_accepts b (Use i k m) ≡ false

-- afford-1, family-7: what Afford of a card answers is accepted, and none of more is; nothing changes
pub record CardAffordIsLargest : Type 0 where
  pub largest : (b : Box) (i : ℕ) (k : Kind) → CardAffordable b i k (box_afford b i k)
  pub unchanged : (b : Box) (i : ℕ) (k : Kind) → box_step b (Afford i k) ≡ b

-- family-7: an account's call, made on the card at place 0 where it names one
unfoldable pub on_first : Call → BoxCall
on_first (plain-call.Register p) = Register p
on_first (plain-call.Use k n) = Use 0 k n
on_first (plain-call.TopUp n) = TopUp n
on_first plain-call.NextDay = NextDay
on_first (plain-call.Afford k) = Afford 0 k

-- aid: what the calls of a list on an account answer, one after the other
unfoldable pub answers : Account → List Call → List (Result Outcome Refusal)
answers a [] = []
answers a (c ∷ cs) = (applied a c).answer ∷ answers (step a c) cs

-- aid: what the calls of a list on a box answer
unfoldable pub box_answers : Box → List BoxCall → List (Result Outcome Refusal)
box_answers b [] = []
box_answers b (c ∷ cs) = (box_applied b c).answer ∷ box_answers (box_step b c) cs

-- family-5: a list of an account's calls, made on the box, gets the account's answers and leaves its account
pub record AsPlain (a : Account) (b : Box) (cs : List Call) : Type 0 where
  pub same_answers : box_answers b (map on_first cs) ≡ answers a cs
  pub same_account : (box_run b (map on_first cs)).account ≡ run a cs

-- aid: the card has the largest allowance
abbrev pub LargestAllowance : Card → Type 0
LargestAllowance c = c.allowance ≡ 1000000000000

-- family-5, family-13, family-14: a box with one card of the largest allowance opens and behaves as the account alone
pub record OneCardIsPlain : Type 0 where
  pub opens : (p : Plan) (c : Card) → LargestAllowance c → (open_box p (c ∷ [])).answer ≡ (open_answer p).answer
  pub from_opening : (p : Plan) (c : Card) → LargestAllowance c
      → (cs : List Call) → AsPlain (open_answer p).account (open_box p (c ∷ [])).box cs
  pub from_sound : (a : Account) (c : Card) → LargestAllowance c → box_sound (box_of a (c ∷ [])) ≡ true
      → (cs : List Call) → AsPlain a (box_of a (c ∷ [])) cs
