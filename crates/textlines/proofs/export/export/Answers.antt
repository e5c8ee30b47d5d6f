-- An accepted export has room for the text.
use Rattle.std.proofs.Common.{sym, ◌∙◌, length}
use Rattle.textlines.proofs.Putting.{exports}
use Rattle.textlines.proofs.export.export.Goals as goal

pub put_text-requires : goal.put_text-requires
put_text-requires c =
    let e = exports c.args.codes.now c.args.numbers.now (length c.args.buf.now) (sym c.verdict_on.ensures ∙ c.in_ok-verdict_on.was) in
    (e.same, e.fits)
