-- The calls of a text that was read stand at the start of both lists; a text that was not read leaves the buffer.
use Rattle.std.proofs.Common.{◌≡◌, sym, ◌∙◌, ap, ℕ, Err}
use Rattle.std.proofs.iter.Serving.{serving}
use Rattle.std.proofs.lemmas.List.{length-replicate}
use Rattle.std.proofs.lemmas.Result.{err_from_is_err_and}
use Rattle.tripfile.specs.Bodies.{codes_of, numbers_of}
use Rattle.textlines.specs.Text.{calls_of}
use Rattle.conversion.specs.Conversion.{told_file}
use Rattle.conversion.proofs.Converting.{Got, got_codes, got_numbers, import_done, imported, imported_buffer}
use Rattle.conversion.proofs.importing.import_text.Goals as goal
use Rattle.conversion.proofs.importing.import_text.Goals.{In_ok-n}

codes_here : (c : In_ok-n) → Got c.in_ok-n.n c.read.new.codes (codes_of (calls_of c.args.text.now))
codes_here c =
    let r = c.read in
    got_codes c.args.text.now r.result _ r.ensures.answer c.in_ok-n.was _ r.new.codes (length-replicate {A = ℕ} 8184 0)
    r.ensures.first

numbers_here : (c : In_ok-n) → Got c.in_ok-n.n c.read.new.numbers (numbers_of (calls_of c.args.text.now))
numbers_here c =
    let r = c.read in
    got_numbers c.args.text.now r.result _ r.ensures.answer c.in_ok-n.was _ r.new.numbers
    (length-replicate {A = ℕ} 8184 0) r.ensures.second

pub slice_bounds-codes-end : goal.slice_bounds-codes-end
slice_bounds-codes-end c = (codes_here (goal.at.slice_bounds-codes-end c).In_ok-n).within

pub slice_bounds-write-end : goal.slice_bounds-write-end
slice_bounds-write-end c = (codes_here (goal.at.slice_bounds-write-end c).In_ok-n).long

pub slice_bounds-numbers-end : goal.slice_bounds-numbers-end
slice_bounds-numbers-end c = (numbers_here (goal.at.slice_bounds-numbers-end c).In_ok-n).within

pub slice_bounds-write-end-2 : goal.slice_bounds-write-end-2
slice_bounds-write-end-2 c = (numbers_here (goal.at.slice_bounds-write-end-2 c).In_ok-n).long

pub returns-in_err-n : goal.returns-in_err-n
returns-in_err-n c =
    let a = c.args in
    let x = sym c.read.ensures.answer ∙ c.in_err-n.was in
    let p = err_from_is_err_and c.from_residual.result c.from_residual.ensures.1 in
    record {
      answer = p.1 ∙ (ap Err p.2 ∙ sym (imported a.plan a.text.now a.buf.now (Err _) x));
      buffer = sym (imported_buffer a.plan a.text.now a.buf.now (Err _) x);
    }

pub returns : goal.returns
returns c =
    let a = c.args in
    let r = c.read in
    let w = c.write in
    let p = (goal.at.returns c).In_ok-n in
    let x =
    import_done a.text.now r.result _ r.ensures.answer c.in_ok-n.was a.plan a.buf.now r.new.codes r.new.numbers w.result
    w.new.buf (codes_here p).is (numbers_here p).is w.ensures.answer w.ensures.buffer in
    let m : c.map_err.result ≡ told_file w.result = grind serving in
    record { answer = m ∙ x.0; buffer = x.1 }
