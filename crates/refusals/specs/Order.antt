-- The numbers that each operation can answer, in the order of its reasons (order-1, order-3, order-4, family-11 to
-- family-14, lines-9, lines-10). Choices (docs/DECISIONS.md, "Trip file" and "Family box"): order of 13, 14, 15, 1, 17,
-- 18, 2; the order of a use's refusals. Assumes nothing.
use Rattle.std.specs.Prelude.{ℕ, ◌≡◌, Bool, true, false, ◌||◌, List, [], ◌∷◌, eqb, Err}
use Rattle.tariff.specs.declared.Kind.{Kind}
use Rattle.tariff.specs.declared.Place.{Place}
use Rattle.tariff.specs.declared.Plan.{Plan}
use Rattle.tariff.specs.declared.Refusal.{Refusal}
use Rattle.tariff.specs.Refusal.{refusal_number}
use Rattle.tariff.specs.Tests.{Reason, verdict_of}
use Rattle.tariff.specs.Plan.{plan_reasons}
use Rattle.account.specs.declared.Account.{Account}
use Rattle.account.specs.declared.Call.TheVariants.{Register, Use, TopUp, NextDay, Afford}
use Rattle.account.specs.Calls.{reasons}
use Rattle.cards.specs.declared.Card.{Card}
use Rattle.family.specs.declared.BoxCall.TheVariants as OnBox
use Rattle.family.specs.Box.{Box, box_reasons}
use Rattle.family.specs.Answers.{open_reasons}
use Rattle.sections.specs.Find.{find_reasons}
use Rattle.tripfile.specs.Reading.{read_reasons}
use Rattle.tripfile.specs.Writing.{write_reasons}
use Rattle.textlines.specs.Text.{reading_reasons, export_reasons}

-- aid: the numbers of reasons, in their order
unfoldable pub numbers : List Reason → List ℕ
numbers [] = []
numbers (r ∷ rs) = refusal_number r.refusal ∷ numbers rs

-- aid: n is one of the numbers
unfoldable pub among : ℕ → List ℕ → Bool
among n [] = false
among n (m ∷ ms) = eqb n m || among n ms

-- order-1, order-3, order-4, fault-4, family-11, family-12, family-13, family-14: each operation's numbers; and a
-- refusal tells one of them
pub record ReasonsInOrder : Type 0 where
  pub of_open : (p : Plan) → numbers (plan_reasons p) ≡ 1 ∷ 17 ∷ 18 ∷ 2 ∷ []
  pub of_register : (a : Account) (p : Place) → numbers (reasons a (Register p)) ≡ 0 ∷ []
  pub of_use : (a : Account) (k : Kind) (n : ℕ) → numbers (reasons a (Use k n)) ≡ 0 ∷ 3 ∷ 4 ∷ 5 ∷ 6 ∷ []
  pub of_top_up : (a : Account) (n : ℕ) → numbers (reasons a (TopUp n)) ≡ 0 ∷ 7 ∷ 8 ∷ []
  pub of_next_day : (a : Account) → numbers (reasons a NextDay) ≡ 0 ∷ 9 ∷ []
  pub of_afford : (a : Account) (k : Kind) → numbers (reasons a (Afford k)) ≡ 0 ∷ 3 ∷ []
  pub of_read : (f : List ℕ) → numbers (read_reasons f) ≡ 10 ∷ 11 ∷ 12 ∷ 13 ∷ 14 ∷ 15 ∷ 1 ∷ 17 ∷ 18 ∷ 2 ∷ []
  pub of_find : (f : List ℕ) (k : ℕ) → numbers (find_reasons f k) ≡ 10 ∷ 11 ∷ 12 ∷ 13 ∷ []
  pub of_write : (p : Plan) (cs ns : List ℕ) (room : ℕ)
      → numbers (write_reasons p cs ns room) ≡ 1 ∷ 17 ∷ 18 ∷ 2 ∷ 14 ∷ 15 ∷ 16 ∷ []
  pub of_open_box : (p : Plan) (cs : List Card) → numbers (open_reasons p cs) ≡ 1 ∷ 17 ∷ 18 ∷ 2 ∷ 19 ∷ 20 ∷ []
  pub of_register_box : (b : Box) (p : Place) → numbers (box_reasons b (OnBox.Register p)) ≡ 0 ∷ 19 ∷ []
  pub of_use_card : (b : Box) (i : ℕ) (k : Kind) (n : ℕ)
      → numbers (box_reasons b (OnBox.Use i k n)) ≡ 0 ∷ 19 ∷ 3 ∷ 4 ∷ 5 ∷ 20 ∷ 6 ∷ []
  pub of_top_up_box : (b : Box) (n : ℕ) → numbers (box_reasons b (OnBox.TopUp n)) ≡ 0 ∷ 19 ∷ 7 ∷ 8 ∷ []
  pub of_next_day_box : (b : Box) → numbers (box_reasons b OnBox.NextDay) ≡ 0 ∷ 19 ∷ 9 ∷ []
  pub of_afford_card : (b : Box) (i : ℕ) (k : Kind) → numbers (box_reasons b (OnBox.Afford i k)) ≡ 0 ∷ 19 ∷ 3 ∷ []
  pub only_these : (rs : List Reason) (r : Refusal) → verdict_of rs ≡ Err r
      → among (refusal_number r) (numbers rs) ≡ true

-- order-1, order-4, lines-9, lines-10: the numbers of reading a text of calls, and of exporting one
pub record TextReasonsInOrder : Type 0 where
  pub of_read_text : (t : List ℕ) (a b : ℕ) → numbers (reading_reasons t a b) ≡ 21 ∷ 22 ∷ 16 ∷ []
  pub of_export_text : (cs ns : List ℕ) (room : ℕ) → numbers (export_reasons cs ns room) ≡ 14 ∷ 15 ∷ 21 ∷ 16 ∷ []
