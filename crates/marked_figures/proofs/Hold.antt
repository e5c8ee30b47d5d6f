-- The figures hold, by computation. Assumes nothing.
use mathlib.Core.Path.{refl}
use Rattle.tariff.specs.Tests.{all, verdict_of}
use Rattle.tariff.specs.Caps.{table_of, built_in, row_at, first_rows, rows_of, caps_from, caps_on, rows_read, search_of}
use Rattle.tariff.specs.Plan.{unused_empty, prices_in_range, terms_in_range, amount_reasons, plan_reasons, plan_verdict, open_bundle, credit_allowance, plan_allowance}
use Rattle.tariff.specs.Charges.{home_charges_of}
use Rattle.presence.specs.Day.{zone_day, on_day, counts_as}
use Rattle.presence.specs.Window.{sum_days, prevalent, prevalent_long, prevalent_short}
use Rattle.marked_figures.specs.Figures.{figures, FiguresHold}

pub figures_hold : FiguresHold
unfolding all figures caps_on caps_from rows_of first_rows row_at built_in table_of rows_read search_of verdict_of unused_empty prices_in_range terms_in_range amount_reasons plan_reasons plan_verdict open_bundle credit_allowance plan_allowance home_charges_of zone_day on_day counts_as sum_days prevalent prevalent_long prevalent_short
figures_hold = record { thirty = refl; hold = refl }
