use Rattle.std.proofs.Common.{◌≡◌, sym, ◌∙◌, ap, rules, length, ℕ}
use Rattle.numbers.proofs.Back.{account_length}
use Rattle.tariff.specs.declared.Refusal.TheVariants.{Unsound}
use Rattle.std.specs.Prelude.{Err}
use Rattle.cards.specs.declared.Change.{Change}
use Rattle.family.specs.Seen.{no_change}
use Rattle.meter.proofs.Found.{found_none, seen_settles, seen_done}
use Rattle.meter.proofs.boxes.call_found.Goals as goal

pub returns-then-not-held-clause-answer : goal.returns-then-not-held-clause-answer
returns-then-not-held-clause-answer c =
    let a = c.args in
    let e = c.unchanged.ensures ∙ ap (λ (i : ℕ). no_change i a.s) c.place_of.ensures in
    ap (λ (h : Change). record { answer = Err Unsound; change = h }) e
    ∙ (found_none a.account.now a.s a.c (sym c.held.ensures ∙ c.if-not-held.true)).0

pub returns-then-not-held-clause-numbers : goal.returns-then-not-held-clause-numbers
returns-then-not-held-clause-numbers c =
    (found_none c.args.account.now c.args.s c.args.c (sym c.held.ensures ∙ c.if-not-held.true)).1

pub state_held-state-requires : goal.state_held-state-requires
state_held-state-requires c = account_length c.args.account.now (sym c.held.ensures ∙ c.if-not-held.false)

pub unwrap-requires : goal.unwrap-requires
unwrap-requires c =
    let n : length c.args.account.now ≡ 1649 = account_length c.args.account.now (sym c.held.ensures ∙ c.if-not-held.false) in
    search rules

pub settle-requires : goal.settle-requires
settle-requires c =
    let d = c.call_seen-done in
    let k = rw c.unwrap.ensures at c.first_chunk_mut.ensures.cases in
    seen_settles c.args.account.now d.new.log _ c.args.s c.args.c _ d.result (sym c.held.ensures ∙ c.if-not-held.false)
    c.state_held-state.ensures k.same d.ensures.answer d.ensures.shifted

pub returns-clause-answer : goal.returns-clause-answer
returns-clause-answer c =
    let d = c.call_seen-done in
    let k = rw c.unwrap.ensures at c.first_chunk_mut.ensures.cases in
    ap (λ (h : Change). record { answer = d.result.answer; change = h }) c.change_of.ensures
    ∙ (seen_done c.args.account.now d.new.log _ c.args.s c.args.c _ d.result (sym c.held.ensures ∙ c.if-not-held.false)
    c.state_held-state.ensures k.same d.ensures.answer d.ensures.shifted).0

pub returns-clause-numbers : goal.returns-clause-numbers
returns-clause-numbers c =
    let d = c.call_seen-done in
    let k = rw c.unwrap.ensures at c.first_chunk_mut.ensures.cases in
    c.settle.ensures
    ∙ (seen_done c.args.account.now d.new.log _ c.args.s c.args.c _ d.result (sym c.held.ensures ∙ c.if-not-held.false)
    c.state_held-state.ensures k.same d.ensures.answer d.ensures.shifted).1
