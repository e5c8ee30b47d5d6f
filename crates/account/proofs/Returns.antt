-- What the calls return, reason by reason. Assumes nothing.
use Prim.Native.Nat.{ℕ, ◌+◌, ◌≤◌, ◌<◌}
use mathlib.Core.Path.{◌≡◌, refl, sym, ◌∙◌}
use mathlib.Core.Bool.{Bool, true, false, cond}
use mathlib.Core.List.{List}
use lib.ListN.{length, replicate}
use borrow.Author.Tests.{lt-ltb, le-ltb, le-leb, lt-leb}
use Rattle.tariff.specs.declared.Kind.{Kind}
use Rattle.tariff.specs.declared.Place.{Place}
use Rattle.tariff.specs.declared.Plan.{Plan}
use Rattle.tariff.specs.Plan.{plan_verdict}
use Rattle.tariff.specs.Tests.{between, verdict_of, is_accepted}
use Rattle.tariff.specs.Units.{only}
use Rattle.presence.specs.Day.{joined}
use Rattle.presence.specs.Log.{days_of, logged_with}
use Rattle.presence.proofs.Numbers.{logged_size}
use Rattle.state.specs.declared.State.{State}
use Rattle.state.specs.declared.Outcome.TheVariants.{Done}
use Rattle.state.specs.Use.{charged_units, spent}
use Rattle.state.specs.Moves.{registered, topped, next_state_of}
use Rattle.state.specs.Reasons.{use_reasons, top_up_reasons, next_day_reasons, use_state}
use Rattle.account.specs.declared.Account.{Account}
use Rattle.account.specs.declared.Applied.{Applied}
use Rattle.account.specs.declared.Opened.{Opened}
use Rattle.account.specs.declared.StateOpened.{StateOpened}
use Rattle.account.specs.declared.Call.{Call}
use Rattle.account.specs.declared.Call.TheVariants.{Register, Use, TopUp, NextDay, Afford}
use Rattle.account.specs.Whole.{sound, opened, spend, register_at, top_up_by, day_after}
use Rattle.account.specs.Calls.{own_reasons, reasons, verdict, accepts, after, step}
use Rattle.account.specs.Answers.{no_plan, open_answer, opened_parts, accepted_answer, applied}
use Rattle.std.specs.Prelude.{Ok, Err}
use Rattle.tariff.specs.declared.Refusal.TheVariants.{Unsound, TopUpSize, PaidLimit, LastDay}

either : (b : Bool) (a : Account) (x : State) → ◌≡◌ {A = Account} (record { state = cond b x a.state; log = a.log }) (cond b (record { state = x; log = a.log }) a)
either true a x = refl
either false a x = refl

pub use_sound : (a : Account) (k : Kind) (n : ℕ) → sound a ≡ true
    → ◌≡◌ {A = Applied} (record { answer = (use_state a.state k n).answer; account = record { state = (use_state a.state k n).state; log = a.log } }) (applied a (Use k n))
unfolding applied accepted_answer verdict reasons own_reasons verdict_of step accepts after use_state spend
use_sound a k n s =
    rw s (λ i. record {
      answer = (use_state a.state k n).answer;
      account = either (is_accepted (verdict_of (use_reasons a.state k n))) a (spent a.state (only k n) (charged_units a.state.place k n)) i;
    })

pub unsound : (a : Account) (c : Call) → sound a ≡ false → ◌≡◌ {A = Applied} (record { answer = Err Unsound; account = a }) (applied a c)
unfolding applied verdict reasons verdict_of step accepts
unsound a c s = rw s refl

module _ (a : Account) (s : sound a ≡ true) where
  pub registered_yes : (p : Place) → ◌≡◌ {A = Applied} (record { answer = Ok Done; account = record { state = registered a.state p; log = a.log } }) (applied a (Register p))
  unfolding applied accepted_answer verdict reasons own_reasons verdict_of step accepts after register_at
  registered_yes p = rw s refl

  pub topped_7 : (n : ℕ) → between 1 n 10000000 ≡ false → ◌≡◌ {A = Applied} (record { answer = Err TopUpSize; account = a }) (applied a (TopUp n))
  unfolding applied accepted_answer verdict reasons own_reasons verdict_of step accepts top_up_reasons
  topped_7 n e = rw (s, e) refl

  pub topped_8 : (n : ℕ) → between 1 n 10000000 ≡ true → 1000000000 < a.state.money.paid + n → ◌≡◌ {A = Applied} (record { answer = Err PaidLimit; account = a }) (applied a (TopUp n))
  unfolding applied accepted_answer verdict reasons own_reasons verdict_of step accepts top_up_reasons
  topped_8 n e l = rw (s, e, lt-ltb _ _ l) refl

  pub topped_yes : (n : ℕ) → between 1 n 10000000 ≡ true → a.state.money.paid + n ≤ 1000000000
      → ◌≡◌ {A = Applied} (record { answer = Ok Done; account = record { state = topped a.state n; log = a.log } }) (applied a (TopUp n))
  unfolding applied accepted_answer verdict reasons own_reasons verdict_of step accepts top_up_reasons after top_up_by
  topped_yes n e l = rw (s, e, le-ltb _ _ l) refl

  pub next_9 : 3833 ≤ a.state.day → ◌≡◌ {A = Applied} (record { answer = Err LastDay; account = a }) (applied a NextDay)
  unfolding applied accepted_answer verdict reasons own_reasons verdict_of step accepts next_day_reasons
  next_9 h = rw (s, le-leb _ _ h) refl

  pub next_yes : a.state.day < 3833
      → ◌≡◌ {A = Applied}
      (record { answer = Ok Done; account = record { state = next_state_of a.state (joined a.state.today (days_of a.log)); log = logged_with a.state.today a.log } })
      (applied a NextDay)
  unfolding applied accepted_answer verdict reasons own_reasons verdict_of step accepts next_day_reasons after day_after
  next_yes h = rw (s, lt-leb _ _ h) refl

-- Open hands out an empty log, whether it accepts or not
empty_log : (p : Plan) → (open_answer p).account.log ≡ replicate 1599 0
unfolding open_answer opened
empty_log p = go (is_accepted (plan_verdict p))
  where
    go : (b : Bool) → (cond b (opened p) (opened no_plan)).log ≡ replicate 1599 0
    go true = refl
    go false = refl

pub opened_whole : (p : Plan) (r : StateOpened) (l : List ℕ) → r ≡ opened_parts (open_answer p) → l ≡ replicate 1599 0
    → ◌≡◌ {A = Opened} (record { answer = r.answer; account = record { state = r.state; log = l } }) (open_answer p)
opened_whole p r l e f =
    let g : l ≡ (open_answer p).account.log = f ∙ sym (empty_log p) in
    λ i. record { answer = (e i).answer; account = record { state = (e i).state; log = g i } }

-- the log after a call
abbrev pub log_of : Applied → List ℕ
log_of x = x.account.log

-- only a day change touches the log
kept : (b : Bool) (a x : Account) → x.log ≡ a.log → (cond b x a).log ≡ a.log
kept true a x e = e
kept false a x e = refl

pub register_keeps : (a : Account) (p : Place) → (step a (Register p)).log ≡ a.log
unfolding step after register_at
register_keeps a p = kept (accepts a (Register p)) a (register_at a p) refl

pub use_keeps : (a : Account) (k : Kind) (n : ℕ) → (step a (Use k n)).log ≡ a.log
unfolding step after spend
use_keeps a k n = kept (accepts a (Use k n)) a (spend a (only k n) (charged_units a.state.place k n)) refl

pub top_up_keeps : (a : Account) (n : ℕ) → (step a (TopUp n)).log ≡ a.log
unfolding step after top_up_by
top_up_keeps a n = kept (accepts a (TopUp n)) a (top_up_by a n) refl

-- all but the log, and the log, make the account again
pub joined_applied : (a : Account) (c : Call) (l : List ℕ) → l ≡ (step a c).log
    → ◌≡◌ {A = Applied} (record { answer = (applied a c).answer; account = record { state = (applied a c).account.state; log = l } }) (applied a c)
unfolding applied
joined_applied a c l e = λ i. record { answer = (applied a c).answer; account = record { state = (step a c).state; log = e i } }

-- the log keeps its size
size_either : (b : Bool) (a x : Account) → length a.log ≡ 1599 → length x.log ≡ 1599 → length (cond b x a).log ≡ 1599
size_either true a x h k = k
size_either false a x h k = h

pub step_size : (a : Account) (c : Call) → length a.log ≡ 1599 → length (step a c).log ≡ 1599
unfolding step after register_at spend top_up_by day_after
step_size a (Register p) h = size_either (accepts a (Register p)) a _ h h
step_size a (Use k n) h = size_either (accepts a (Use k n)) a _ h h
step_size a (TopUp n) h = size_either (accepts a (TopUp n)) a _ h h
step_size a NextDay h = size_either (accepts a NextDay) a _ h (logged_size a.state.today a.log h)
step_size a (Afford k) h = size_either (accepts a (Afford k)) a a h h
