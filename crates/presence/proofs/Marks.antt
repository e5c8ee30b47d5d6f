-- A day's marks and units: what adds up, and how far. Assumes nothing.
use Rattle.std.specs.Prelude.{Option, Some, None}
use mathlib.Core.Path.{◌≡◌, refl}
use native.Mathlib.Nat.{add_assoc}
use native.Mathlib.Omega.{arith}
use Rattle.tariff.specs.declared.Units.{Units}
use Rattle.tariff.specs.declared.Place.{Place}
use Rattle.tariff.specs.declared.Place.TheVariants.{Home, Zone, Elsewhere}
use Rattle.tariff.specs.Units.{◌⊕◌, AtMost}
use Rattle.presence.specs.declared.Day.{Day}
use Rattle.presence.specs.Day.{mark_day, add_day, day_units}

-- two uses of a day at one place are one use of their sum
pub day_adds : (w : Option Place) (u v : Units) (d : Day) → add_day w v (mark_day w (add_day w u (mark_day w d))) ≡ add_day w (u ⊕ v) (mark_day w d)
unfolding add_day mark_day
day_adds None u v d = refl
day_adds (Some Home) u v d = simp add_assoc
day_adds (Some Zone) u v d = simp add_assoc
day_adds (Some Elsewhere) u v d = simp add_assoc

-- a use adds its units to the day's, and a mark none
pub day_use_bounded : (w : Option Place) (u : Units) (d : Day) → AtMost (day_units (add_day w u (mark_day w d))) (day_units d ⊕ u)
unfolding add_day mark_day
day_use_bounded None u d = omega arith
day_use_bounded (Some Home) u d = omega arith
day_use_bounded (Some Zone) u d = omega arith
day_use_bounded (Some Elsewhere) u d = omega arith

pub day_mark_bounded : (w : Option Place) (d : Day) → AtMost (day_units (mark_day w d)) (day_units d)
unfolding mark_day
day_mark_bounded None d = omega arith
day_mark_bounded (Some Home) d = omega arith
day_mark_bounded (Some Zone) d = omega arith
day_mark_bounded (Some Elsewhere) d = omega arith
