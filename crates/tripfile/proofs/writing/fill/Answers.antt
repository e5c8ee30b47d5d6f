-- What stands in the buffer after each part, and at the end.
use Rattle.std.proofs.Common.{◌-◌, refl, length, arith}
use Rattle.words.proofs.Read.{fit_of}
use Rattle.tripfile.proofs.Filled.{put_part, run}
use Rattle.tripfile.proofs.writing.fill.Goals as goal

pub returns : goal.returns
returns c =
    let cs = c.args.codes.now in
    let ns = c.args.numbers.now in
    let buf = c.args.buf.now in
    let l₁ = c.put_words.new.s in
    let l₂ = c.put_words-2.new.s in
    let l₃ = c.put_calls.new.s in
    let b₁ = put_part 0 36 buf l₁ in
    let b₂ = put_part 36 28 b₁ l₂ in
    let b₃ = put_part 64 (length b₂ - 64) b₂ l₃ in
    run c.args.plan cs ns buf c.words_of-body.result l₁ l₂ l₃ b₃ c.put_word.new.s c.sum-rest.result c.solve.result c.requires
    (fit_of cs (λ i. omega (arith, c.type_inv.codes i))) (fit_of ns (λ i. omega (arith, c.type_inv.numbers i)))
    c.put_words.ensures c.words_of-body.ensures c.put_words-2.ensures c.put_calls.ensures refl c.sum-rest.ensures c.solve.ensures c.put_word.ensures
