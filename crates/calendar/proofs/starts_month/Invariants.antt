-- Every month passed begins before the day.
use Rattle.calendar.proofs.Search.{Passed}
use Rattle.calendar.proofs.starts_month.Given as goal

abbrev pub invariant-loop-month : goal.invariant-loop-month
invariant-loop-month l = Passed l.day l.month
