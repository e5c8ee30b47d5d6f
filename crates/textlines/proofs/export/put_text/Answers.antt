-- A turn puts one line behind the others.
use Rattle.std.proofs.Common.{length-append, arith}
use Rattle.std.proofs.lemmas.Slice.Zip.{zip_turn, zip_end}
use Rattle.textlines.proofs.Putting.{put_begun, put_turn, put_size, put_all}
use Rattle.textlines.proofs.export.put_text.Goals as goal

pub loop-code-init : goal.loop-code-init
loop-code-init c = put_begun _ _ _

pub loop-code-preserved : goal.loop-code-preserved
loop-code-preserved c =
    let p = c.put_line-at in
    let t = zip_turn c.args.codes.now c.args.numbers.now c.loop-code.yielded c.into_iter-code-iterator.result c.loop-code.code-iterator c.next.new.self c.next.result (cc) (cc) c.loop-code.yielded_by _ c.in-Some.is c.next.ensures.steps in
    rw length-append
    (put_turn c.loop-code.invariant c.requires.0 c.requires.1 t.0 _ _ (t.2 0) (t.3 0) p.new.buf p.result p.ensures.end p.ensures.buffer)

pub returns : goal.returns
returns c =
    let e = zip_end c.args.codes.now c.args.numbers.now c.loop-code.yielded c.into_iter-code-iterator.result c.loop-code.code-iterator c.next.new.self c.next.result (cc) (cc) c.loop-code.yielded_by c.in-None.is c.next.ensures.steps in
    record {
      size = put_size c.loop-code.invariant c.requires.0 (omega (arith, e, c.requires.0));
      bytes = put_all c.loop-code.invariant c.requires.0 (omega (arith, e, c.requires.0));
    }
