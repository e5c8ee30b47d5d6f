-- All rows read but the last one have not begun.
use Rattle.tariff.proofs.CapLaws.{Reading}
use Rattle.tariff.proofs.caps.rows_read.Given as goal

abbrev pub invariant-loop-read : goal.invariant-loop-read
invariant-loop-read l = Reading l.t.numbers l.count l.day l.read
