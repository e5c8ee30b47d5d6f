-- A turn stores the call of one line.
use Rattle.std.proofs.Common.{◌≡◌, ◌<◌, sym, ◌∙◌, length, get_or, length-append, arith}
use Rattle.std.proofs.lemmas.Iterator.Consumers.{YieldsList-at, YieldsList-from_enumerate, YieldsList-turn, YieldsList-end}
use Rattle.std.proofs.lemmas.List.FromFn.{length-enumerate_from}
use Rattle.text.proofs.Placing.{placed_none}
use Rattle.textlines.specs.Text.{lines_of}
use Rattle.textlines.proofs.Lines.{yields_lines, numbered}
use Rattle.textlines.proofs.Filling.{code_put, number_put, codes_all, numbers_all}
use Rattle.textlines.proofs.reading.fill.Goals as goal
use Rattle.textlines.proofs.reading.fill.Goals.{In-Some}

-- the line of this turn, and its place
turn : (c : In-Some) → (length c.loop-i.yielded < length (lines_of c.args.text.now)) × (c.in-Some.i ≡ length c.loop-i.yielded)
    × (c.in-Some.line.now ≡ get_or (lines_of c.args.text.now) (length c.loop-i.yielded) c.in-Some.line.now)
turn c =
    let t =
    YieldsList-turn (YieldsList-from_enumerate (YieldsList-at (cc) (yields_lines {s = record { rest = c.args.text }} c.args.text.now (cc))) (cc)) c.loop-i.yielded c.loop-i.i-iterator c.loop-i.yielded_by c.next.result c.next.new.self (c.in-Some.i, c.in-Some.line) c.in-Some.is
    c.next.ensures.steps in
    numbered (lines_of c.args.text.now) (length c.loop-i.yielded) c.in-Some.i c.in-Some.line.now t.0 t.1

pub loop-i-init : goal.loop-i-init
loop-i-init c = record { codes = sym (placed_none _ 0); numbers = sym (placed_none _ 0) }

pub offset_bounds-codes-i : goal.offset_bounds-codes-i
offset_bounds-codes-i c = let t = turn (goal.at.offset_bounds-codes-i c).In-Some in omega (arith, t, c.requires)

pub bounds-codes-i : goal.bounds-codes-i
bounds-codes-i c = let t = turn (goal.at.bounds-codes-i c).In-Some in omega (arith, t, c.requires)

pub offset_bounds-numbers-i : goal.offset_bounds-numbers-i
offset_bounds-numbers-i c = let t = turn (goal.at.offset_bounds-numbers-i c).In-Some in omega (arith, t, c.requires)

pub bounds-numbers-i : goal.bounds-numbers-i
bounds-numbers-i c = let t = turn (goal.at.bounds-numbers-i c).In-Some in omega (arith, t, c.requires)

pub loop-i-preserved : goal.loop-i-preserved
loop-i-preserved c =
    let t = turn (goal.at.loop-i-preserved c).In-Some in
    let v = c.loop-i.invariant in
    let text = c.args.text.now in
    let l = c.in-Some.line.now in
    let k = length c.loop-i.yielded in
    let e = c.code_of-code.ensures in
    rw t.1 (simp length-append (record {
      codes = code_put text c.loop-i.codes c.args.codes.now k l c.code_of-code.result t.0 c.requires.0 t.2 e v.codes;
      numbers = number_put text c.loop-i.numbers c.args.numbers.now k l c.code_of-code.result t.0 c.requires.1 t.2 e c.number_of-number.result c.number_of-number.ensures v.numbers;
    }))

pub returns : goal.returns
returns c =
    let text = c.args.text.now in
    let e = YieldsList-end (YieldsList-from_enumerate (YieldsList-at (cc) (yields_lines {s = record { rest = c.args.text }} c.args.text.now (cc))) (cc)) c.loop-i.yielded c.loop-i.i-iterator c.loop-i.yielded_by c.next.result c.next.new.self c.in-None.is c.next.ensures.steps in
    let n : length c.loop-i.yielded ≡ length (lines_of text) = e.1 ∙ length-enumerate_from 0 (lines_of text) in
    record {
      first = c.loop-i.invariant.codes ∙ codes_all text c.args.codes.now _ n;
      second = c.loop-i.invariant.numbers ∙ numbers_all text c.args.numbers.now _ n;
    }
