use Rattle.std.proofs.Common.{arith, sym, length-take-le}
use Rattle.export.proofs.Fits.{fits_zeros}
use Rattle.export.proofs.main.Goals as goal

pub slice_bounds-text-end : goal.slice_bounds-text-end
slice_bounds-text-end c =
    omega (arith, fits_zeros _ 65536 _ c.in-Ok.ensures.answer, c.export_file.auto.buf)

pub slice_bounds-write_all-end : goal.slice_bounds-write_all-end
slice_bounds-write_all-end c =
    let room = fits_zeros _ 65536 _ c.in-Ok.ensures.answer in
    sym (length-take-le _ _ (omega (arith, room, c.export_file.auto.buf)))
