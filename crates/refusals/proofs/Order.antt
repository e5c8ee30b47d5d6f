-- The reasons of each operation stand in this order, by computation. Assumes nothing.
use mathlib.Core.Path.{◌≡◌, refl}
use mathlib.Core.Bool.{Bool, true, false, cond, ◌||◌}
use mathlib.Core.List.{List, [], ◌∷◌}
use lib.Dec.{eqb}
use borrow.Author.Tests.{eq-eqb}
use Rattle.tariff.specs.declared.Refusal.{Refusal}
use Rattle.tariff.specs.Refusal.{refusal_number}
use Rattle.tariff.specs.Tests.{Reason, verdict_of}
use Rattle.tariff.specs.Plan.{amount_reasons, plan_reasons, terms_reasons}
use Rattle.state.specs.Reasons.{use_reasons, top_up_reasons, next_day_reasons}
use Rattle.account.specs.Calls.{own_reasons, reasons}
use Rattle.family.specs.Box.{plain, before, with_allowance, box_reasons}
use Rattle.family.specs.Answers.{card_reasons, open_reasons}
use Rattle.sections.specs.Table.{file_reasons}
use Rattle.sections.specs.Find.{find_reasons}
use Rattle.tripfile.specs.Reading.{body_reasons, read_reasons}
use Rattle.tripfile.specs.Writing.{calls_reasons, write_reasons}
use Rattle.textlines.specs.Text.{reading_reasons, export_reasons}
use Rattle.refusals.specs.Order.{numbers, among, ReasonsInOrder, TextReasonsInOrder}
use Rattle.std.specs.Prelude.{Err}

or_right : (b : Bool) → (b || true) ≡ true
or_right true = refl
or_right false = refl

-- a refusal tells the number of one of the reasons
only_these : (rs : List Reason) (x : Refusal) → verdict_of rs ≡ Err x → among (refusal_number x) (numbers rs) ≡ true
unfolding verdict_of numbers among
only_these [] x h = cc
only_these (r ∷ rs) x h = go r.holds (λ e. only_these rs x e) h
  where
    go : (b : Bool) → (verdict_of rs ≡ Err x → among (refusal_number x) (numbers rs) ≡ true)
        → cond b (Err r.refusal) (verdict_of rs) ≡ Err x
        → eqb (refusal_number x) (refusal_number r.refusal) || among (refusal_number x) (numbers rs) ≡ true
    go true f e = rw (eq-eqb (refusal_number x) (refusal_number r.refusal) cc) refl
    go false f e = rw (f e) (or_right (eqb (refusal_number x) (refusal_number r.refusal)))

pub reasons_in_order : ReasonsInOrder
unfolding numbers amount_reasons plan_reasons terms_reasons use_reasons top_up_reasons next_day_reasons own_reasons reasons file_reasons find_reasons body_reasons read_reasons calls_reasons write_reasons plain before with_allowance box_reasons card_reasons open_reasons
reasons_in_order = record {
  of_open = λ p. refl;
  of_register = λ a p. refl;
  of_use = λ a k n. refl;
  of_top_up = λ a n. refl;
  of_next_day = λ a. refl;
  of_afford = λ a k. refl;
  of_read = λ f. refl;
  of_find = λ f k. refl;
  of_write = λ p cs ns room. refl;
  of_open_box = λ p cs. refl;
  of_register_box = λ b p. refl;
  of_use_card = λ b i k n. refl;
  of_top_up_box = λ b n. refl;
  of_next_day_box = λ b. refl;
  of_afford_card = λ b i k. refl;
  only_these = only_these;
}

pub text_reasons_in_order : TextReasonsInOrder
unfolding numbers calls_reasons reading_reasons export_reasons
text_reasons_in_order = record {
  of_read_text = λ t a b. refl;
  of_export_text = λ cs ns room. refl;
}
