use Rattle.std.proofs.Common.{◌≡◌, ◌∙◌, rules, length}
use Rattle.numbers.proofs.Back.{account_length}
use Rattle.meter.proofs.Ran.{stands, said_sound, run_settles, run_refused, run_left}
use Rattle.meter.proofs.files.run_held.Goals as goal

pub state_held-state-requires : goal.state_held-state-requires
state_held-state-requires c = account_length c.args.account.now (stands c.args.account.now c.requires)

pub unwrap-log-requires : goal.unwrap-log-requires
unwrap-log-requires c =
    let n : length c.args.account.now ≡ 1649 = account_length c.args.account.now (stands c.args.account.now c.requires) in
    search rules

pub run_section-t-requires : goal.run_section-t-requires
run_section-t-requires c =
    let k = rw c.unwrap-log.ensures at c.first_chunk_mut.ensures.cases in
    λ e. said_sound c.args.account.now _ _ c.requires c.state_held-state.ensures k.same

pub put_state-requires : goal.put_state-requires
put_state-requires c =
    let t = c.run_section-t in
    let k = rw c.unwrap-log.ensures at c.first_chunk_mut.ensures.cases in
    run_settles c.args.account.now _ _ c.requires c.state_held-state.ensures k.same t.new.log c.args.section.now t.result t.ensures

pub returns-clause-refused : goal.returns-clause-refused
returns-clause-refused c =
    let t = c.run_section-t in
    let k = rw c.unwrap-log.ensures at c.first_chunk_mut.ensures.cases in
    run_refused c.args.account.now _ _ c.requires c.state_held-state.ensures k.same t.new.log c.args.section.now t.result t.ensures

pub returns-clause-numbers : goal.returns-clause-numbers
returns-clause-numbers c =
    let t = c.run_section-t in
    let k = rw c.unwrap-log.ensures at c.first_chunk_mut.ensures.cases in
    c.put_state.ensures
    ∙ run_left c.args.account.now _ _ c.requires c.state_held-state.ensures k.same t.new.log c.args.section.now t.result t.ensures
