-- What a call on a box answers, reason by reason, by what a pass over the cards found. Assumes nothing.
use mathlib.Core.Path.{◌≡◌, refl}
use mathlib.Core.Bool.{true, false, cond}
use Rattle.account.specs.declared.Account.{Account}
use Rattle.account.specs.declared.Applied.{Applied}
use Rattle.account.specs.Whole.{sound}
use Rattle.account.specs.Answers.{applied, applied_state}
use Rattle.cards.specs.declared.Survey.{Survey}
use Rattle.family.specs.declared.BoxCall.{BoxCall}
use Rattle.family.specs.Box.{plain}
use Rattle.family.specs.Seen.{cards_fit, card_read, card_missing, within_card, with_log, seen_applied}
use Rattle.std.specs.Prelude.{Err}
use Rattle.tariff.specs.declared.Refusal.TheVariants.{Unsound, CardPlace}

module _ (a : Account) (s : Survey) (c : BoxCall) where
  pub seen_0 : cards_fit a.state s ≡ false → ◌≡◌ {A = Applied} (record { answer = Err Unsound; account = a }) (seen_applied a s c)
  unfolding seen_applied
  seen_0 e = rw e refl

  pub seen_19 : cards_fit a.state s ≡ true → card_missing s c ≡ true
      → ◌≡◌ {A = Applied} (record { answer = Err (cond (sound a) CardPlace Unsound); account = a }) (seen_applied a s c)
  unfolding seen_applied
  seen_19 e f = rw (e, f) refl

  pub seen_plain : cards_fit a.state s ≡ true → card_missing s c ≡ false
      → with_log (applied a (plain c)).account (within_card a.state (applied_state (applied a (plain c))) (card_read s) c)
      ≡ seen_applied a s c
  unfolding seen_applied
  seen_plain e f = rw (e, f) refl
