use Rattle.std.proofs.Common.{arith, sym, length-take-le}
use Rattle.import.proofs.Fits.{fits_zeros}
use Rattle.import.proofs.import_under.Goals as goal

pub slice_bounds-file-end : goal.slice_bounds-file-end
slice_bounds-file-end g c =
    omega (arith, fits_zeros _ _ 65536 _ c.in-Ok.ensures.answer, c.import_text.auto.buf)

pub slice_bounds-write_all-end : goal.slice_bounds-write_all-end
slice_bounds-write_all-end g c =
    let room = fits_zeros _ _ 65536 _ c.in-Ok.ensures.answer in
    sym (length-take-le _ _ (omega (arith, room, c.import_text.auto.buf)))
