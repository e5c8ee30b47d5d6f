-- The eleven marked figures, six of 1/13, six of 2/13 and seven of 4/13, as one table of tests over the definitions
-- that the contracts cite (figure-1 to figure-5, promise-3, off-1, off-2, rows-2, fault-1 to fault-3). No choice
-- matters here beside those of the rules. Assumes nothing.
use Rattle.std.specs.Prelude.{ℕ, ◌≡◌, Bool, true, false, not, List, [], ◌∷◌, ◌++◌, eqb, length, replicate, Option, Some, None, Result, Ok, Err, ⊤}
use Rattle.tariff.specs.Tests.{all, is_accepted}
use Rattle.tariff.specs.declared.Form.{Form}
use Rattle.tariff.specs.declared.Form.TheVariants.{Prepaid, Bundle, Unlimited}
use Rattle.tariff.specs.declared.Plan.{Plan}
use Rattle.tariff.specs.Units.{only, zero_units}
use Rattle.tariff.specs.declared.Kind.TheVariants.{Data}
use Rattle.tariff.specs.Caps.{built_in, caps_on, search_of}
use Rattle.tariff.specs.Plan.{plan_verdict, open_bundle, credit_allowance, plan_allowance}
use Rattle.tariff.specs.Charges.{home_charges_of}
use Rattle.presence.specs.declared.Day.{Day}
use Rattle.presence.specs.declared.Service.TheVariants.{DataService}
use Rattle.presence.specs.Window.{prevalent_long, prevalent_short}
use Rattle.tariff.specs.declared.Refusal.{Refusal}
use Rattle.tariff.specs.Refusal.{refusal_number}

-- aid: the allowance is this number of kB
abbrev pub allows : Option ℕ → ℕ → Bool
allows None n = false
allows (Some l) n = eqb l n

-- aid: a bundle without other prices
abbrev pub bundle : Form → ℕ → ℕ → Plan
bundle f fee volume = record { form = f; start = 181; pergb = 0; perminute = 0; persms = 0; fee = fee; volume = volume }

-- aid: a prepaid plan with a data price
abbrev pub prepaid_at : ℕ → Plan
prepaid_at price = record { form = Prepaid; start = 181; pergb = price; perminute = 0; persms = 0; fee = 0; volume = 0 }

-- aid: a plan as it is typed in: form, start day, SMS price, fee and volume; the other prices 0
abbrev pub typed : Form → ℕ → ℕ → ℕ → ℕ → Plan
typed f day price fee volume = record {
  form = f;
  start = day;
  pergb = 0;
  perminute = 0;
  persms = price;
  fee = fee;
  volume = volume;
}

-- aid: the verdict is a refusal with this number
abbrev pub declines : Result ⊤ Refusal → ℕ → Bool
declines (Ok tt) n = false
declines (Err r) n = eqb (refusal_number r) n

-- aid: a day marked zone with kB used there
abbrev pub zone_kb : ℕ → Day
zone_kb n = record {
  home = false;
  zone = true;
  elsewhere = false;
  athome = zero_units;
  inzone = only Data n;
  outside = zero_units;
}

-- aid: a day marked home with kB used there
abbrev pub home_kb : ℕ → Day
home_kb n = record {
  home = true;
  zone = false;
  elsewhere = false;
  athome = only Data n;
  inzone = zero_units;
  outside = zero_units;
}

-- aid: a day without marks, so off, on which kB stand in the zone all the same: days alone then decide
abbrev pub off_kb : ℕ → Day
off_kb n = record {
  home = false;
  zone = false;
  elsewhere = false;
  athome = zero_units;
  inzone = only Data n;
  outside = zero_units;
}

-- figure-1, figure-2, figure-3, figure-4, figure-5, promise-3: the figures, each as a test that holds
unfoldable pub figures : List Bool
figures =
    -- figure-1, at cap 77000: fee 900000; fee 100000, with 2 GB
    allows (plan_allowance (bundle Unlimited 900000 0) 77000) 24512166
    ∷ allows (plan_allowance (bundle Bundle 100000 2097152) 77000) 2723574
    -- figure-2: one open bundle, two that are not
    ∷ open_bundle Bundle 100000 77000 3145728
    ∷ not (open_bundle Bundle 100000 77000 1048576)
    ∷ not (open_bundle Bundle 77000 77000 1048576)
    -- figure-3: the L of a credit, and what so many kB cost
    ∷ allows (credit_allowance 2000 970) 2162012
    ∷ eqb (home_charges_of (prepaid_at 500) (only Data 2162012)) 1030
    -- figure-4, off-4, none of 123 days off: 61 zone days of 61,000 kB and 62 home days without use fail; 62 zone
    -- days and 61 home days of 1 kB each prevail, by 1 kB
    ∷ not (prevalent_long DataService 123 (replicate 61 (zone_kb 1000) ++ replicate 62 (home_kb 0)))
    ∷ prevalent_long DataService 123 (replicate 62 (zone_kb 1) ++ replicate 61 (home_kb 1))
    -- figure-5: both sides of a row
    ∷ eqb (caps_on built_in 1460).kb 13000
    ∷ eqb (caps_on built_in 1461).kb 11000
    -- off-1, off-2, over 123 days with more zone kB than others: 1 zone day and 122 off prevail; 1 zone day, 1 home
    -- day and 121 off fail; so do 123 off
    ∷ prevalent_long DataService 123 (zone_kb 1 ∷ replicate 122 (off_kb 1))
    ∷ not (prevalent_long DataService 123 (zone_kb 1 ∷ home_kb 0 ∷ replicate 121 (off_kb 1)))
    ∷ not (prevalent_long DataService 123 (replicate 123 (off_kb 1)))
    -- off-1, off-2: the same over 15 days
    ∷ prevalent_short DataService 15 (zone_kb 1 ∷ replicate 14 (off_kb 1))
    ∷ not (prevalent_short DataService 15 (zone_kb 1 ∷ home_kb 0 ∷ replicate 13 (off_kb 1)))
    ∷ not (prevalent_short DataService 15 (replicate 15 (off_kb 1)))
    -- rows-2, of the built-in six: all while the first row holds, 1 once the last one does
    ∷ eqb (search_of built_in 181).read 6
    ∷ eqb (search_of built_in 364).read 6
    ∷ eqb (search_of built_in 365).read 5
    ∷ eqb (search_of built_in 1825).read 2
    ∷ eqb (search_of built_in 1826).read 1
    ∷ eqb (search_of built_in 3833).read 1
    -- fault-1, fault-2, fault-3, two faults at once: price and fee; unused field and price; fee and day
    ∷ declines (plan_verdict (typed Bundle 181 1000001 10000001 1)) 17
    ∷ declines (plan_verdict (typed Prepaid 181 1000001 1 0)) 1
    ∷ declines (plan_verdict (typed Bundle 180 0 10000001 1)) 18
    -- fault-1, fault-3: an unused field that is also too large; a bundle with V 0
    ∷ declines (plan_verdict (typed Prepaid 181 0 10000001 0)) 1
    ∷ declines (plan_verdict (typed Bundle 181 0 0 0)) 18
    -- fault-2: price and day; plan-2, plan-3, plan-4: all at the end of their ranges
    ∷ declines (plan_verdict (typed Bundle 180 1000001 0 1)) 17
    ∷ is_accepted (plan_verdict (typed Bundle 3833 1000000 10000000 1073741824))
    ∷ []

-- promise-3: all of them, in one statement
pub record FiguresHold : Type 0 where
  pub thirty : length figures ≡ 30
  pub hold : all figures ≡ true
