-- A file that was read has a calls section; one that was not leaves the buffer.
use Rattle.std.proofs.Common.{◌≡◌, sym, ◌∙◌, Err}
use Rattle.std.proofs.iter.Serving.{serving}
use Rattle.conversion.specs.Conversion.{told_text}
use Rattle.conversion.proofs.Converting.{section_short, export_done, exported, exported_buffer}
use Rattle.conversion.proofs.exporting.export_file.Goals as goal

pub export_section-requires : goal.export_section-requires
export_section-requires c =
    section_short c.args.file.now c.find.result.now c.in-Ok.field-0.plan c.in-Ok.field-0.calls (sym c.read.ensures ∙ c.in-Ok.is) c.find.ensures.bytes

pub returns-in-Ok : goal.returns-in-Ok
returns-in-Ok c =
    let a = c.args in
    let w = c.export_section in
    let s = c.find in
    let x =
    export_done a.file.now a.buf.now s.result.now c.in-Ok.field-0.plan c.in-Ok.field-0.calls w.result w.new.buf (sym c.read.ensures ∙ c.in-Ok.is)
    s.ensures.bytes w.ensures.answer w.ensures.buffer in
    let m : c.map_err.result ≡ told_text w.result = grind serving in
    record { answer = m ∙ x.0; buffer = x.1 }

pub returns-in-Err : goal.returns-in-Err
returns-in-Err c =
    let a = c.args in
    let e = sym c.read.ensures ∙ c.in-Err.is in
    record {
      answer = sym (exported a.file.now a.buf.now (Err _) e);
      buffer = sym (exported_buffer a.file.now a.buf.now (Err _) e);
    }
