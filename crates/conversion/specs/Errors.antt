-- What a text that is not read is told as (lines-12). Assumes nothing.
use Rattle.textlines.specs.declared.TextError.{TextError}
use Rattle.textlines.specs.declared.TextError.TheVariants as Lines
use Rattle.conversion.specs.declared.ImportError.{ImportError}
use Rattle.conversion.specs.declared.ImportError.TheVariants as In

-- lines-12: a bad line by its number, any other refusal as the text's
abbrev pub declined_text : TextError → ImportError
declined_text (Lines.BadLine k) = In.BadLine k
declined_text (Lines.Refused r) = In.Text r
