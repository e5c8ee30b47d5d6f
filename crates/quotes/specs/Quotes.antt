-- Aids to Afford (afford-1): what a use of one kind costs, from that kind's own figures. That this is the cost by the
-- rules of Use is `OneKindsCost`. Choice (docs/DECISIONS.md, "Afford"): how it is found. Assumes nothing.
use Rattle.std.specs.Prelude.{ℕ, ◌+◌, ◌-◌, ◌*◌, ◌/◌, ◌≤◌, max, Bool, cond, ◌&&◌, leb, Option, Some, None}
use Rattle.tariff.specs.declared.Kind.{Kind}
use Rattle.tariff.specs.declared.Kind.TheVariants.{Data, Outgoing, Incoming, Sms}
use Rattle.tariff.specs.declared.Form.{Form}
use Rattle.tariff.specs.declared.Form.TheVariants.{Prepaid, Bundle, Unlimited}
use Rattle.tariff.specs.declared.Plan.{Plan}
use Rattle.tariff.specs.Units.{of_kind}
use Rattle.tariff.specs.Caps.{built_in, caps_on}
use Rattle.presence.specs.declared.ServiceState.{ServiceState}
use Rattle.presence.specs.declared.ServiceState.TheVariants.{Clear, Warned, Surcharged}
use Rattle.presence.specs.declared.Services.{Services}
use Rattle.presence.specs.Day.{in_zone}
use Rattle.state.specs.declared.State.{State}
use Rattle.quotes.specs.declared.Quote.{Quote}
use Rattle.state.specs.Needs.{bears}
use Rattle.tariff.specs.declared.Place.{Place}

-- aid: the points that a sum of price or cap by units comes to in a kind
abbrev pub points : Kind → ℕ → ℕ
points Data x = x / 1048576
points Outgoing x = x / 60
points Incoming x = x / 60
points Sms x = x

-- aid: the plan's price of a kind; incoming seconds have none
abbrev pub price_of : Plan → Kind → ℕ
price_of p Data = p.pergb
price_of p Outgoing = p.perminute
price_of p Incoming = 0
price_of p Sms = p.persms

-- aid: the fewest units that a record is charged for
abbrev pub least_charged : Option Place → Kind → ℕ
least_charged w Data = 0
least_charged w Outgoing = cond (in_zone w) 30 0
least_charged w Incoming = 0
least_charged w Sms = 0

-- aid: the charged units that the meter of charged seconds can take yet
abbrev pub seconds_left : State → Kind → ℕ
seconds_left a Data = 1000000000000
seconds_left a Outgoing = 1000000000000 - a.meters.chargedseconds
seconds_left a Incoming = 1000000000000
seconds_left a Sms = 1000000000000

-- aid: a plan's kB before the first that bears the home price, after h others; as many as a use may have where none
-- does
abbrev pub free_kb : Form → ℕ → ℕ → ℕ
free_kb Prepaid v h = 0
free_kb Bundle v h = v - h
free_kb Unlimited v h = 1000000000

-- aid: the same of a kind, where the home price bears
abbrev pub free_of : Plan → ℕ → Kind → ℕ
free_of p h Data = free_kb p.form p.volume h
free_of p h Outgoing = 0
free_of p h Incoming = 1000000000
free_of p h Sms = 0

-- aid: the kB left of the allowance, after r others
abbrev pub left_of : Option ℕ → ℕ → ℕ
left_of None r = 1000000000
left_of (Some l) r = l - r

-- aid: the units before the first that bears a surcharge: none where the service is Surcharged
abbrev pub inside_part : ServiceState → ℕ → ℕ
inside_part Clear n = n
inside_part (Warned k) n = n
inside_part Surcharged n = 0

-- aid: the same of a kind, in the zone
abbrev pub inside_of : Services → Option ℕ → ℕ → Kind → ℕ
inside_of s l r Data = inside_part s.internet (left_of l r)
inside_of s l r Outgoing = inside_part s.calls 1000000000
inside_of s l r Incoming = inside_part s.calls 1000000000
inside_of s l r Sms = inside_part s.messages 1000000000

-- aid: home charges and surcharges of the kind, if c units more are charged
unfoldable pub quoted : Quote → ℕ → ℕ
quoted q c =
    points q.kind (q.price * (q.billed + (c - q.free)))
    + points q.kind (q.basis + q.cap * (c - q.inside))

-- aid: what the kind has come to so far
abbrev pub spent_so_far : State → Kind → ℕ
spent_so_far a k =
    points k (price_of a.plan k * of_kind k a.meters.billed)
    + points k (of_kind k a.meters.basis)

-- aid: a kind's own figures. Law: the cost is what these come to (`OneKindsCost`)
unfoldable pub quote_of : State → Kind → Quote
quote_of a k = record {
  kind = k;
  least = least_charged a.place k;
  room = 1000000000000 - of_kind k a.meters.lifetime;
  seconds = seconds_left a k;
  free = cond (bears a.place) (free_of a.plan a.quota.monthly k) 1000000000;
  price = price_of a.plan k;
  billed = of_kind k a.meters.billed;
  inside = cond (in_zone a.place) (inside_of a.services a.quota.allowance a.quota.roamed k) 1000000000;
  cap = of_kind k (caps_on built_in a.day);
  basis = of_kind k a.meters.basis;
  funds = a.money.credit + spent_so_far a k;
}

-- aid: are n units within the meters and the funds?
unfoldable pub within_quote : Quote → ℕ → Bool
within_quote q n =
    leb n q.room && leb (max n q.least) q.seconds && leb (quoted q (max n q.least)) q.funds

-- aid: figures that stay within the machine's numbers
pub record Quotable (q : Quote) : Type 0 where
  pub price_most : q.price ≤ 1000000
  pub billed_most : q.billed ≤ 1000000000000
  pub cap_most : q.cap ≤ 20000
  pub basis_most : q.basis ≤ 20000000000000000
  pub least_most : q.least ≤ 30
