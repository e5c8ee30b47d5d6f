-- Demand 3 of family boxes as one claim about whole lists of calls (family-8 to family-10, list-1, list-4, list-7,
-- list-9, book-12, half-8). The book is the account's: it is fed the account's calls that the box's calls come to, and
-- whether the box accepted each. No choice matters here beside those of the rules that it rests on. Assumes nothing.
use Rattle.std.specs.Prelude.{◌≡◌, Bool, true, List, [], ◌∷◌, length, get_or, Ok}
use Rattle.tariff.specs.declared.Plan.{Plan}
use Rattle.account.specs.declared.Call.{Call}
use Rattle.cards.specs.declared.Card.{Card}
use Rattle.cards.specs.Cards.{cards_units}
use Rattle.family.specs.declared.BoxCall.{BoxCall}
use Rattle.family.specs.Box.{Box, plain, box_sound, box_accepts, box_step}
use Rattle.family.specs.Answers.{open_box}
use Rattle.machine.specs.Machine as machine
use Rattle.ledger.specs.Journal.{Entry, Opening, new_opening, opening_of, new_journal, write}
use Rattle.ledger.specs.Demand3.{Shown}
use Rattle.family_ledger.specs.Lists.{box_calls, box_run}

-- list-4, family-14: opening accepts plan and cards and hands out the box
abbrev pub BoxOpensAs : Plan → List Card → Box → Type 0
BoxOpensAs p cs b = open_box p cs ≡ record { answer = Ok tt; box = b }

-- book-1, family-5: each call as the account's, and whether the box accepted it
unfoldable pub box_answered : Box → List BoxCall → List (Call × Bool)
box_answered b [] = []
box_answered b (c ∷ cs) = (plain c, box_accepts b c) ∷ box_answered (box_step b c) cs

-- book-1, book-3, family-5: the book's items after a list of calls on the box
unfoldable pub box_entries : Opening → Box → List BoxCall → List Entry
box_entries o b cs = (write (new_journal o) (box_answered b cs)).entries

-- family-8, family-9, family-10, list-1: of two boxes that begin alike and a list of calls on each
pub record Claim (o : Opening) (a b : Box) (xs ys : List BoxCall) : Type 0 where
  -- with the same cuts, equal boxes (account and cards) at all of them just where all stretches are equal, by card and
  -- in charged seconds
  pub matched : machine.Matches box_calls a b xs ys
  -- the sum over the cards is what the account has counted
  pub adds_up : cards_units (box_run a xs).cards ≡ (box_run a xs).account.state.meters.lifetime
  -- no call is refused with 0, so the other parts are about the calls as they are meant
  pub stays_sound : box_sound (box_run a xs) ≡ true
  -- the account's money is the book's, and it balances
  pub shown : Shown o (box_run a xs).account (box_entries o a xs)

-- family-8, family-9, family-10, list-4, list-9, book-12: for every plan and list of cards, any two boxes opened alike
-- with them, and any two lists
abbrev pub FamilyDemand3 : Type 0
FamilyDemand3 = (p : Plan) (cs : List Card) (a b : Box) → BoxOpensAs p cs a → BoxOpensAs p cs b
    → (xs ys : List BoxCall) → Claim (new_opening p) a b xs ys

-- family-8, family-9, family-10, book-12: the same from any sound box, with the fields of whose account the book begins
abbrev pub FamilyFromSound : Type 0
FamilyFromSound = (b : Box) → box_sound b ≡ true → (xs ys : List BoxCall) → Claim (opening_of b.account) b b xs ys

-- family-10, list-7: one stretch more than cuts, so what a match compares is equally long where cuts agree
abbrev pub FamilyOneMoreThanCuts : Type 0
FamilyOneMoreThanCuts = (b : Box) (cs : List BoxCall) → machine.OneMore box_calls b cs

-- family-10, list-9: the last box compared is the one that the list leads to
abbrev pub FamilyEndIsCompared : Type 0
FamilyEndIsCompared = (a b : Box) (cs : List BoxCall)
    → get_or (machine.snapshots box_calls a cs) (length (machine.cuts box_calls a cs)) b ≡ box_run a cs
