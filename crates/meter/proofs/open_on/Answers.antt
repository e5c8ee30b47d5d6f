use Rattle.std.proofs.Common.{◌≡◌, sym, ◌∙◌, rules, length, take, replicate}
use Rattle.meter.proofs.Held.{prefix_length}
use Rattle.meter.proofs.Open.{blanked, blank-length, payable, writable_new, opened_laid}
use Rattle.meter.proofs.open_on.Goals as goal

pub slice_bounds-fill-end-2 : goal.slice_bounds-fill-end-2
slice_bounds-fill-end-2 c = sym (prefix_length c.args.account.now c.requires.0)

pub opened_with-requires : goal.opened_with-requires
opened_with-requires c = payable c.args.p c.requires.1

pub put_state-requires : goal.put_state-requires
put_state-requires c =
    let xs = c.args.account.now in
    let f : c.fill.new.self ≡ replicate (length (take 1599 xs)) 0 = search rules in (
      blank-length xs _ c.requires.0 (blanked xs _ c.requires.0 f),
      writable_new c.args.p c.opened_with.result c.requires.1 c.opened_with.ensures,
    )

pub returns : goal.returns
returns c =
    let xs = c.args.account.now in
    let f : c.fill.new.self ≡ replicate (length (take 1599 xs)) 0 = search rules in
    c.put_state.ensures
    ∙ opened_laid xs _ c.args.p c.opened_with.result c.requires.1 c.opened_with.ensures (blanked xs _ c.requires.0 f)
