use Rattle.std.proofs.Common.{◌≡◌, sym, ◌∙◌, rules, length}
use Rattle.numbers.proofs.Back.{account_length}
use Rattle.meter.proofs.Held.{no_account, call_settles, call_done}
use Rattle.meter.proofs.calls.call_on.Goals as goal

pub returns-then-not-held-clause-answer : goal.returns-then-not-held-clause-answer
returns-then-not-held-clause-answer c = (no_account c.args.account.now c.args.c (sym c.held.ensures ∙ c.if-not-held.true)).0

pub returns-then-not-held-clause-numbers : goal.returns-then-not-held-clause-numbers
returns-then-not-held-clause-numbers c = (no_account c.args.account.now c.args.c (sym c.held.ensures ∙ c.if-not-held.true)).1

pub state_held-state-requires : goal.state_held-state-requires
state_held-state-requires c = account_length c.args.account.now (sym c.held.ensures ∙ c.if-not-held.false)

pub unwrap-requires : goal.unwrap-requires
unwrap-requires c =
    let n : length c.args.account.now ≡ 1649 = account_length c.args.account.now (sym c.held.ensures ∙ c.if-not-held.false) in
    search rules

pub settle-requires : goal.settle-requires
settle-requires c =
    let d = c.call_with-done in
    let k = rw c.unwrap.ensures at c.first_chunk_mut.ensures.cases in
    call_settles c.args.account.now d.new.log _ c.args.c _ d.result (sym c.held.ensures ∙ c.if-not-held.false)
    c.state_held-state.ensures k.same d.ensures.answer d.ensures.shifted

pub returns-clause-answer : goal.returns-clause-answer
returns-clause-answer c =
    let d = c.call_with-done in
    let k = rw c.unwrap.ensures at c.first_chunk_mut.ensures.cases in
    (call_done c.args.account.now d.new.log _ c.args.c _ d.result (sym c.held.ensures ∙ c.if-not-held.false)
    c.state_held-state.ensures k.same d.ensures.answer d.ensures.shifted).0

pub returns-clause-numbers : goal.returns-clause-numbers
returns-clause-numbers c =
    let d = c.call_with-done in
    let k = rw c.unwrap.ensures at c.first_chunk_mut.ensures.cases in
    c.settle.ensures
    ∙ (call_done c.args.account.now d.new.log _ c.args.c _ d.result (sym c.held.ensures ∙ c.if-not-held.false)
    c.state_held-state.ensures k.same d.ensures.answer d.ensures.shifted).1
