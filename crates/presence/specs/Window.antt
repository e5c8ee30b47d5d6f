-- Sums over the last days, and when a service is prevalent (service-2 to service-6, off-1 to off-4). Choices
-- (docs/DECISIONS.md, "Services"): off days; half of the days; no day but off days; units of an off day; fewer days
-- than the window; equal units. Assumes nothing.
use Rattle.std.specs.Prelude.{ℕ, zero, suc, ◌+◌, ◌*◌, min, Bool, ◌&&◌, List, ltb, get_or}
use Rattle.presence.specs.declared.Day.{Day}
use Rattle.presence.specs.declared.Service.{Service}
use Rattle.presence.specs.declared.Service.TheVariants.{DataService, CallService, SmsService}
use Rattle.presence.specs.Day.{empty_day, zone_day, on_day}

-- service-2, half-4: a service's zone units on a day
abbrev pub zone_units : Service → Day → ℕ
zone_units DataService d = d.inzone.kb
zone_units CallService d = d.inzone.outgoing + d.inzone.incoming
zone_units SmsService d = d.inzone.sms

-- service-3, half-4: its units at home and elsewhere, without seconds received at home
abbrev pub other_units : Service → Day → ℕ
other_units DataService d = d.athome.kb + d.outside.kb
other_units CallService d = d.athome.outgoing + d.outside.outgoing + d.outside.incoming
other_units SmsService d = d.athome.sms + d.outside.sms

-- service-6, form-5: the sum over the w newest days, by one day less
unfoldable pub sum_days : (Day → ℕ) → ℕ → List Day → ℕ
sum_days f zero ds = 0
sum_days f (suc w) ds = f (get_or ds w empty_day) + sum_days f w ds

-- service-4, off-1: more than half of the days on, and more zone units than others
abbrev pub prevailing : ℕ → ℕ → ℕ → ℕ → Bool
prevailing zonedays ondays zone other = ltb ondays (2 * zonedays) && ltb other zone

-- service-4, service-5, off-1, off-3: prevalent over w days, or over all n logged ones if fewer. Laws: windows of off
-- days alone never prevail (`OffDaysOnly`); without off days 62 and 8 decide (`FullWindows`)
unfoldable pub prevalent : Service → ℕ → ℕ → List Day → Bool
prevalent s w n ds =
    prevailing (sum_days zone_day (min w n) ds) (sum_days on_day (min w n) ds)
    (sum_days (zone_units s) (min w n) ds) (sum_days (other_units s) (min w n) ds)

-- service-4, off-3: prevalent over 123 days
unfoldable pub prevalent_long : Service → ℕ → List Day → Bool
prevalent_long s n ds = prevalent s 123 n ds

-- service-4, off-3: prevalent over 15 days
unfoldable pub prevalent_short : Service → ℕ → List Day → Bool
prevalent_short s n ds = prevalent s 15 n ds
