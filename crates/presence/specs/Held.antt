-- Aids to `presence`: what inner functions ask and answer (joined bits of numbers, sums that stay small, windows that a
-- step asks for). No contract of an entry point cites them. Assumes nothing.
use Rattle.std.specs.Prelude.{ℕ, zero, suc, ◌+◌, ◌*◌, ◌/◌, ◌%◌, ◌<◌, ◌≡◌, Bool, true, false, ◌&&◌, List, eqb, leb, get_or}
use Rattle.std.specs.Int.Bits.{bit_or}
use Rattle.tariff.specs.declared.Units.{Units}
use Rattle.tariff.specs.Units.{each, zero_units, AtMost}
use Rattle.presence.specs.declared.Day.{Day}
use Rattle.presence.specs.declared.Prevalent.{Prevalent}
use Rattle.presence.specs.declared.ServiceState.{ServiceState}
use Rattle.presence.specs.declared.ServiceState.TheVariants.{Clear, Warned, Surcharged}
use Rattle.presence.specs.declared.Service.{Service}
use Rattle.presence.specs.declared.Service.TheVariants.{DataService, CallService, SmsService}
use Rattle.presence.specs.Day.{empty_day, day_units, zone_day, on_day}
use Rattle.presence.specs.Log.{lifetime_most, days_of}
use Rattle.presence.specs.Window.{zone_units, other_units, sum_days, prevailing, prevalent}

-- aid: sums with room for one more day
abbrev pub Roomy : Units → Type 0
Roomy u = AtMost u (each 1000000000000000 1000000000000000 1000000000000000 1000000000000000)

-- aid: the units of a day whose numbers are below 2^40
abbrev pub Bounded : Units → Type 0
Bounded u = AtMost u (each 3298534883328 3298534883328 3298534883328 3298534883328)

-- aid: the units of each of the first n days are bounded so; 2^40 is above any lifetime units
abbrev pub UnitsFit : ℕ → List ℕ → Type 0
UnitsFit n xs = (i : ℕ) → i < n → Bounded (day_units (get_or (days_of xs) i empty_day))

-- aid: the bits of n numbers, joined: a bit is set where one of the numbers has it
unfoldable pub bits_of : (ℕ → ℕ) → ℕ → ℕ
bits_of f zero = 0
bits_of f (suc n) = bit_or (bits_of f n) (f n)

-- aid: the numbers of the log from a place on
abbrev pub place_from : ℕ → List ℕ → ℕ → ℕ
place_from from xs i = get_or xs (from + i) 0

-- aid: the marks of a day as the log keeps them
abbrev pub marks_kept : List ℕ → ℕ → ℕ
marks_kept xs i = get_or xs (13 * i) 0

-- aid: numbers that are the marks of the w newest days
abbrev pub SameMarks : ℕ → List ℕ → List ℕ → Type 0
SameMarks w xs ms = (k : ℕ) → k < w → get_or ms k 0 ≡ marks_kept xs k

-- aid: a day with such marks and no units
abbrev pub marked_day : ℕ → Day
marked_day m = record {
  home = eqb (m % 2) 1;
  zone = eqb (m / 2 % 2) 1;
  elsewhere = eqb (m / 4 % 2) 1;
  athome = zero_units;
  inzone = zero_units;
  outside = zero_units;
}

-- aid: the bits of units of all kinds, joined
abbrev pub units_bits : Units → ℕ
units_bits u = bit_or (bit_or (bit_or u.kb u.outgoing) u.incoming) u.sms

-- aid: the bits of units, joined kind by kind with those of a day
abbrev pub bits_with : Units → Day → Units
bits_with u d = each
    (bit_or (bit_or (bit_or d.athome.kb d.inzone.kb) d.outside.kb) u.kb)
    (bit_or (bit_or (bit_or d.athome.outgoing d.inzone.outgoing) d.outside.outgoing) u.outgoing)
    (bit_or (bit_or (bit_or d.athome.incoming d.inzone.incoming) d.outside.incoming) u.incoming)
    (bit_or (bit_or (bit_or d.athome.sms d.inzone.sms) d.outside.sms) u.sms)

-- aid: the same of the first n days
unfoldable pub bits_over : ℕ → List Day → Units
bits_over zero ds = zero_units
bits_over (suc n) ds = bits_with (bits_over n ds) (get_or ds n empty_day)

-- aid: units within the limit of lifetime units
abbrev pub Low : Units → Type 0
Low u = AtMost u lifetime_most

-- aid: a service is prevalent over the w newest days
abbrev pub prevails : Service → ℕ → List Day → Bool
prevails s w ds =
    prevailing (sum_days zone_day w ds) (sum_days on_day w ds) (sum_days (zone_units s) w ds)
    (sum_days (other_units s) w ds)

-- aid: the services that are
abbrev pub prevalent_over : ℕ → List Day → Prevalent
prevalent_over w ds = record {
  internet = prevails DataService w ds;
  calls = prevails CallService w ds;
  messages = prevails SmsService w ds;
}

-- aid: the services that are prevalent, where it is asked; else none
abbrev pub prevalent_where : Bool → ℕ → ℕ → List Day → Prevalent
prevalent_where asked w n ds = record {
  internet = asked && prevalent DataService w n ds;
  calls = asked && prevalent CallService w n ds;
  messages = asked && prevalent SmsService w n ds;
}

-- aid: a step asks for the window of 123 days: of Clear where these are logged, and of Surcharged
abbrev pub long_asked : Bool → ServiceState → Bool
long_asked full Clear = full
long_asked full (Warned k) = false
long_asked full Surcharged = true

-- aid: a step asks for the window of 15 days: of Warned at its 15th day change
abbrev pub short_asked : ServiceState → Bool
short_asked Clear = false
short_asked (Warned k) = leb 14 k
short_asked Surcharged = false
