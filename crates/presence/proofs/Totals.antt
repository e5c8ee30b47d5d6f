-- The sums of a window, one day at a time, and that those of a sound log stay small. Assumes nothing.
use Prim.Native.Nat.{ℕ, zero, suc, ◌+◌, ◌-◌, ◌*◌, ◌≤◌, ◌<◌}
use mathlib.Core.Path.{◌≡◌, refl, sym, ◌∙◌, ap}
use mathlib.Core.Bool.{Bool, true, false, ◌&&◌, ◌||◌}
use mathlib.Core.List.{List, map}
use native.Mathlib.Omega.{arith}
use native.Mathlib.Numerals.{sub-one}
use lib.Dec.{eqb, leb, ltb}
use lib.ListN.{get_or, set, length, get_or-map}
use lib.Seq.{get_or-set_same, get_or-set_other}
use borrow.Author.Tests.{le-leb, ltb-false, eqb-true, eqb-false}
use Rattle.tariff.specs.declared.Units.{Units}
use Rattle.presence.specs.declared.Day.{Day}
use Rattle.presence.specs.declared.DayKind.{DayKind}
use Rattle.presence.specs.declared.DayKind.TheVariants.{HomeDay, ZoneDay, OffDay}
use Rattle.presence.specs.declared.Service.{Service}
use Rattle.presence.specs.declared.Service.TheVariants.{DataService, CallService, SmsService}
use Rattle.presence.specs.declared.ServiceState.{ServiceState}
use Rattle.presence.specs.declared.ServiceState.TheVariants.{Clear, Warned, Surcharged}
use Rattle.presence.specs.Day.{empty_day, day_units, zone_day, one_if_zone, on_day, one_if_on, counts_as}
use Rattle.presence.specs.Window.{zone_units, other_units, sum_days, prevalent, prevalent_long, prevalent_short}
use Rattle.presence.specs.Service.{state_step, next_state}
use Rattle.presence.specs.Log.{days_of, units_over}
use Rattle.presence.specs.Held.{Low, SameMarks, marked_day, long_asked, short_asked}
use Rattle.presence.proofs.Logs.{over_at, over_fewer}
use Rattle.presence.proofs.Numbers.{day_at_is}

-- what a window may add up: of a day, no more than its units, and 1
abbrev pub Moderate : (Day → ℕ) → Type 0
Moderate f = (d : Day) → f d ≤ d.athome.kb + d.inzone.kb + d.outside.kb + (d.athome.outgoing + d.inzone.outgoing + d.outside.outgoing)
    + (d.athome.incoming + d.inzone.incoming + d.outside.incoming) + (d.athome.sms + d.inzone.sms + d.outside.sms) + 1

pub zone_moderate : (s : Service) → Moderate (zone_units s)
zone_moderate DataService d = omega arith
zone_moderate CallService d = omega arith
zone_moderate SmsService d = omega arith

pub other_moderate : (s : Service) → Moderate (other_units s)
other_moderate DataService d = omega arith
other_moderate CallService d = omega arith
other_moderate SmsService d = omega arith

-- the units of all kinds
abbrev total : Units → ℕ
total u = u.kb + u.outgoing + u.incoming + u.sms

-- the sums over no day, and over one day more
pub sum_none : (f : Day → ℕ) (w : ℕ) (ds : List Day) → w ≡ 0 → sum_days f w ds ≡ 0
unfolding sum_days
sum_none f w ds e = rw e refl

pub sum_more : (f : Day → ℕ) (w : ℕ) (ds : List Day) → (w ≡ 0 → ⊥) → sum_days f w ds ≡ f (get_or ds (w - 1) empty_day) + sum_days f (w - 1) ds
unfolding sum_days
sum_more f zero ds h = absurd (h refl)
sum_more f (suc w) ds h = rw (sub-one (suc w)) refl

-- a count asks only for the marks, so that of the marks is that of the days
same_sums : (f : Day → ℕ) (w : ℕ) (ds es : List Day) → ((k : ℕ) → k < w → f (get_or ds k empty_day) ≡ f (get_or es k empty_day)) → sum_days f w ds ≡ sum_days f w es
unfolding sum_days
same_sums f zero ds es h = refl
same_sums f (suc w) ds es h = rw (h w (omega arith), same_sums f w ds es (λ k l. h k (omega arith))) refl

pub zone_marked : (w : ℕ) (xs ms : List ℕ) → w ≤ 123 → SameMarks w xs ms → sum_days zone_day w (map marked_day ms) ≡ sum_days zone_day w (days_of xs)
unfolding zone_day counts_as
zone_marked w xs ms h s = same_sums zone_day w (map marked_day ms) (days_of xs) (λ k l. ap zone_day (get_or-map marked_day ms k 0) ∙ ap (λ (m : ℕ). zone_day (marked_day m)) (s k l) ∙ sym (ap zone_day (day_at_is k xs (omega arith))))

pub on_marked : (w : ℕ) (xs ms : List ℕ) → w ≤ 123 → SameMarks w xs ms → sum_days on_day w (map marked_day ms) ≡ sum_days on_day w (days_of xs)
unfolding on_day counts_as
on_marked w xs ms h s = same_sums on_day w (map marked_day ms) (days_of xs) (λ k l. ap on_day (get_or-map marked_day ms k 0) ∙ ap (λ (m : ℕ). on_day (marked_day m)) (s k l) ∙ sym (ap on_day (day_at_is k xs (omega arith))))

-- and what one day counts of its marks is what the day counts
pub zone_day_marked : (w k r : ℕ) (xs ms : List ℕ) → w ≤ 123 → SameMarks w xs ms → k < w → r ≡ zone_day (marked_day (get_or ms k 0)) → r ≡ zone_day (get_or (days_of xs) k empty_day)
unfolding zone_day counts_as
zone_day_marked w k r xs ms h s l e = e ∙ ap (λ (m : ℕ). zone_day (marked_day m)) (s k l) ∙ sym (ap zone_day (day_at_is k xs (omega arith)))

pub on_day_marked : (w k r : ℕ) (xs ms : List ℕ) → w ≤ 123 → SameMarks w xs ms → k < w → r ≡ on_day (marked_day (get_or ms k 0)) → r ≡ on_day (get_or (days_of xs) k empty_day)
unfolding on_day counts_as
on_day_marked w k r xs ms h s l e = e ∙ ap (λ (m : ℕ). on_day (marked_day m)) (s k l) ∙ sym (ap on_day (day_at_is k xs (omega arith)))

-- the marks, one day more
pub marks_more : (i : ℕ) (xs ms : List ℕ) → i < length ms → SameMarks i xs ms → SameMarks (i + 1) xs (set ms i (get_or xs (13 * i) 0))
marks_more i xs ms h s k l = go (eqb k i) refl
  where
    go : (b : Bool) → eqb k i ≡ b → get_or (set ms i (get_or xs (13 * i) 0)) k 0 ≡ get_or xs (13 * k) 0
    go true q = rw (eqb-true k i q) (get_or-set_same ms i (get_or xs (13 * i) 0) 0 h)
    go false q = let n = eqb-false k i q in get_or-set_other ms i k (get_or xs (13 * i) 0) 0 n ∙ s k (omega (arith, n))

-- no sum over the logged days is above their units, and no count above the days
sum_bounded : (f : Day → ℕ) → Moderate f → (w : ℕ) (ds : List Day) → sum_days f w ds ≤ total (units_over w ds) + w
unfolding sum_days units_over
sum_bounded f m zero ds = omega arith
sum_bounded f m (suc w) ds = omega (arith, sum_bounded f m w ds, m (get_or ds w empty_day))

pub sum_small : (f : Day → ℕ) → Moderate f → (w : ℕ) (ds : List Day) → w ≤ 123 → Low (units_over w ds) → sum_days f w ds ≤ 5000000000000
sum_small f m w ds h l = omega (arith, sum_bounded f m w ds)

counted : (f : Day → ℕ) → ((d : Day) → f d ≤ 1) → (w : ℕ) (ds : List Day) → sum_days f w ds ≤ w
unfolding sum_days
counted f m zero ds = omega arith
counted f m (suc w) ds = omega (arith, counted f m w ds, m (get_or ds w empty_day))

one_at_most : (k : DayKind) → (one_if_zone k ≤ 1) × (one_if_on k ≤ 1)
one_at_most HomeDay = (omega arith, omega arith)
one_at_most ZoneDay = (omega arith, omega arith)
one_at_most OffDay = (omega arith, omega arith)

pub zone_days_counted : (w : ℕ) (ds : List Day) → sum_days zone_day w ds ≤ w
unfolding zone_day
zone_days_counted w ds = counted zone_day (λ d. (one_at_most (counts_as d)).0) w ds

pub on_days_counted : (w : ℕ) (ds : List Day) → sum_days on_day w ds ≤ w
unfolding on_day
on_days_counted w ds = counted on_day (λ d. (one_at_most (counts_as d)).1) w ds

-- nor is what one day counts large
pub zone_at_most : (d : Day) (r : ℕ) → r ≡ zone_day d → r ≤ 5000000000000
unfolding zone_day
zone_at_most d r e = omega (arith, e, one_at_most (counts_as d))

pub on_at_most : (d : Day) (r : ℕ) → r ≡ on_day d → r ≤ 5000000000000
unfolding on_day
on_at_most d r e = omega (arith, e, one_at_most (counts_as d))

-- a day's units are low where those of the days around it are
pub day_low : (n i : ℕ) (ds : List Day) → i < n → Low (units_over n ds) → Low (day_units (get_or ds i empty_day))
day_low n i ds h l = omega (arith, over_at n i ds h)

-- so are those of fewer days
pub low_fewer : (w n : ℕ) (ds : List Day) → w ≤ n → Low (units_over n ds) → Low (units_over w ds)
low_fewer w n ds h l = omega (arith, over_fewer w n ds h)

-- and in a full log there are no more of these than it holds
pub fewer_low : (w n : ℕ) (ds : List Day) → w ≤ n → n ≤ 123 → Low (units_over n ds) → (w ≤ 123) × Low (units_over w ds)
fewer_low w n ds h few l = (omega arith, low_fewer w n ds h l)

-- a step does not depend on a window that it does not ask for
pub step_asked : (full long short a b : Bool) (state : ServiceState) → (long_asked full state ≡ true → a ≡ true) → (short_asked state ≡ true → b ≡ true)
    → state_step full (a && long) (b && short) state ≡ state_step full long short state
step_asked true long short a b Clear f g = rw (f refl) refl
step_asked false long short a b Clear f g = refl
step_asked full long short a b (Warned k) f g = go (ltb k 14) refl
  where
    go : (t : Bool) → ltb k 14 ≡ t → state_step full (a && long) (b && short) (Warned k) ≡ state_step full long short (Warned k)
    go true e = rw e refl
    go false e = rw (g (le-leb 14 k (ltb-false k 14 e))) refl
step_asked full long short a b Surcharged f g = rw (f refl) refl

pub next_asked : (v : Service) (n : ℕ) (ds : List Day) (state : ServiceState) (a b : Bool) → (long_asked (leb 123 n) state ≡ true → a ≡ true) → (short_asked state ≡ true → b ≡ true)
    → state_step (leb 123 n) (a && prevalent v 123 n ds) (b && prevalent v 15 n ds) state ≡ next_state v n ds state
unfolding next_state prevalent_long prevalent_short
next_asked v n ds state a b f g = step_asked (leb 123 n) (prevalent v 123 n ds) (prevalent v 15 n ds) a b state f g

-- what one of three states asks is asked
pub asked_first : (x y z : Bool) → x ≡ true → x || y || z ≡ true
asked_first x y z e = rw e refl

pub asked_second : (x y z : Bool) → y ≡ true → x || y || z ≡ true
asked_second true y z e = refl
asked_second false y z e = rw e refl

pub asked_third : (x y z : Bool) → z ≡ true → x || y || z ≡ true
asked_third true y z e = refl
asked_third false true z e = refl
asked_third false false z e = e

-- no units of a logged day are large
pub zone_small : (s : Service) (n i : ℕ) (ds : List Day) → i < n → Low (units_over n ds) → zone_units s (get_or ds i empty_day) ≤ 5000000000000
zone_small s n i ds h l = omega (arith, zone_moderate s (get_or ds i empty_day), over_at n i ds h)

pub other_small : (s : Service) (n i : ℕ) (ds : List Day) → i < n → Low (units_over n ds) → other_units s (get_or ds i empty_day) ≤ 5000000000000
other_small s n i ds h l = omega (arith, other_moderate s (get_or ds i empty_day), over_at n i ds h)

-- no such sum is large
pub column_small : (s : Service) (w : ℕ) (ds : List Day) → w ≤ 123 → Low (units_over w ds)
    → (sum_days (zone_units s) w ds ≤ 5000000000000) × (sum_days (other_units s) w ds ≤ 5000000000000)
column_small s w ds h l =
    (sum_small (zone_units s) (zone_moderate s) w ds h l, sum_small (other_units s) (other_moderate s) w ds h l)
