-- A use of one kind costs what that kind's own figures say. Assumes nothing.
use Prim.Native.Nat.{ℕ, ◌+◌, ◌-◌, ◌*◌, ◌≤◌, max}
use mathlib.Core.Path.{◌≡◌, refl, sym, ◌∙◌, ap₂}
use mathlib.Core.Bool.{Bool, true, false, not, cond, ◌&&◌, ◌||◌}
use native.Mathlib.Nat.{mul-le-mul, mul-le-mul_left, add-le-add, le_trans, add-zero, mul-zero, zero-mul}
use native.Mathlib.Omega.{arith}
use lib.Dec.{leb, ltb}
use borrow.Author.Tests.{leb-true, ltb-true, ltb-false, lt-leb, le-leb, le-ltb}
use Rattle.tariff.specs.declared.Units.{Units}
use Rattle.tariff.specs.declared.Kind.{Kind}
use Rattle.tariff.specs.declared.Kind.TheVariants.{Data, Outgoing, Incoming, Sms}
use Rattle.tariff.specs.declared.Form.{Form}
use Rattle.tariff.specs.declared.Form.TheVariants.{Prepaid, Bundle, Unlimited}
use Rattle.tariff.specs.declared.Place.TheVariants.{Home, Zone, Elsewhere}
use Rattle.tariff.specs.declared.Plan.{Plan}
use Rattle.tariff.specs.Units.{zero_units, ◌⊕◌, ◌⊗◌, only, of_kind}
use Rattle.tariff.specs.Caps.{built_in, caps_on}
use Rattle.tariff.specs.Charges.{after_first, billed_kb, after_allowance, home_charges_of, surcharges_of}
use Rattle.tariff.proofs.Tests.{and_left, and_right, and_both}
use Rattle.tariff.proofs.Tables.{caps_bound}
use Rattle.presence.specs.declared.ServiceState.{ServiceState}
use Rattle.presence.specs.declared.ServiceState.TheVariants.{Clear, Warned, Surcharged}
use Rattle.presence.specs.declared.Services.{Services}
use Rattle.presence.specs.Day.{in_zone}
use Rattle.state.specs.declared.State.{State}
use Rattle.quotes.specs.declared.Quote.{Quote}
use Rattle.state.specs.Reasons.{overfills}
use Rattle.state.specs.Use.{charged_as, charged_units, billable, roaming, billed_of, surcharged_of, surcharged_units, billed_after, newly_surcharged, basis_after, home_after, extra_after, cost}
use Rattle.state.specs.Needs.{bears, Steady}
use Rattle.quotes.specs.Claims.{OneKindsCost}
use Rattle.quotes.specs.Quotes.{points, price_of, least_charged, seconds_left, free_kb, free_of, left_of, inside_part, inside_of, spent_so_far, quoted, quote_of, within_quote, Quotable}
use Rattle.state.proofs.Adding.{Worked, home_grows, extra_grows}
use Rattle.state.proofs.Soundness.{Counters, counters_tell, charges_tell, plan_of_state}
use Rattle.state.proofs.Verdicts.{kind_most}
use Rattle.std.specs.Prelude.{Option, Some, None}
use Rattle.tariff.specs.declared.Place.{Place}

-- points are no more than what they are rounded from
pub points_most : (k : Kind) (x : ℕ) → points k x ≤ x
points_most Data x = omega arith
points_most Outgoing x = omega arith
points_most Incoming x = omega arith
points_most Sms x = omega arith

-- what a sound account says of a kind
module _ (a : State) (f : Counters a) where
  price_most : (k : Kind) → price_of a.plan k ≤ 1000000
  price_most Data = omega (arith, plan_of_state a f)
  price_most Outgoing = omega (arith, plan_of_state a f)
  price_most Incoming = omega arith
  price_most Sms = omega (arith, plan_of_state a f)

  billed_most : (k : Kind) → of_kind k a.meters.billed ≤ 1000000000000
  billed_most Data = omega (arith, f.billed_ok, f.lifetime_ok)
  billed_most Outgoing = omega (arith, f.billed_ok, f.charged_ok)
  billed_most Incoming = omega (arith, f.billed_ok, f.lifetime_ok)
  billed_most Sms = omega (arith, f.billed_ok, f.lifetime_ok)

  pub basis_most : (k : Kind) → of_kind k a.meters.basis ≤ 20000000000000000
  basis_most Data = omega (arith, f.basis_ok, f.surcharged_ok, f.lifetime_ok)
  basis_most Outgoing = omega (arith, f.basis_ok, f.surcharged_ok, f.charged_ok)
  basis_most Incoming = omega (arith, f.basis_ok, f.surcharged_ok, f.lifetime_ok)
  basis_most Sms = omega (arith, f.basis_ok, f.surcharged_ok, f.lifetime_ok)

  cap_most : (k : Kind) → of_kind k (caps_on built_in a.day) ≤ 20000
  cap_most Data = (caps_bound a.day).most.kb
  cap_most Outgoing = (caps_bound a.day).most.outgoing
  cap_most Incoming = (caps_bound a.day).most.incoming
  cap_most Sms = (caps_bound a.day).most.sms

  least_most : (k : Kind) → (quote_of a k).least ≤ 30
  unfolding quote_of
  least_most Data = omega arith
  least_most Outgoing = go (in_zone a.place)
    where
      go : (b : Bool) → cond b 30 0 ≤ 30
      go true = omega arith
      go false = omega arith
  least_most Incoming = omega arith
  least_most Sms = omega arith

  pub product_most : (k : Kind) → price_of a.plan k * of_kind k a.meters.billed ≤ 1000000000000000000
  product_most k = omega (arith, mul-le-mul (price_most k) (billed_most k))

  pub so_far_most : (k : Kind) → spent_so_far a k ≤ 1020000000000000000
  so_far_most k =
      let home = price_of a.plan k * of_kind k a.meters.billed in
      let extra = of_kind k a.meters.basis in
      omega (arith, points_most k home, points_most k extra, product_most k, basis_most k)

  pub quotable : (k : Kind) → Quotable (quote_of a k)
  quotable k = record {
    price_most = unfold quote_of in price_most k;
    billed_most = unfold quote_of in billed_most k;
    cap_most = unfold quote_of in cap_most k;
    basis_most = unfold quote_of in basis_most k;
    least_most = least_most k;
  }

-- what is added and multiplied stays within the machine's numbers
module _ (q : Quote) (h : Quotable q) (c : ℕ) (l : c ≤ 1000000000) where
  pub priced_most : q.price * (q.billed + (c - q.free)) ≤ 1001000000000000000
  priced_most =
      let b : q.billed + (c - q.free) ≤ 1001000000000 = omega (arith, h.billed_most) in
      omega (arith, mul-le-mul h.price_most b)

  pub capped_most : q.cap * (c - q.inside) ≤ 20000000000000
  capped_most = let b : c - q.inside ≤ 1000000000 = omega arith in omega (arith, mul-le-mul h.cap_most b)

  pub quoted_most : points q.kind (q.price * (q.billed + (c - q.free))) + points q.kind (q.basis + q.cap * (c - q.inside)) ≤ 1030000000000000000
  quoted_most =
      let home = q.price * (q.billed + (c - q.free)) in
      let extra = q.basis + q.cap * (c - q.inside) in
      omega (arith, points_most q.kind home, points_most q.kind extra, priced_most, capped_most, h.basis_most)

-- a use of c units of one kind touches that kind alone
none_after : (l r : ℕ) → after_first l r 0 ≡ 0
unfolding after_first
none_after l r = omega arith

some_after : (l r n : ℕ) → after_first l r n ≡ n - (l - r)
unfolding after_first
some_after l r n = omega arith

none_billed : (f : Form) (v h : ℕ) → billed_kb f v h 0 ≡ 0
unfolding billed_kb
none_billed Prepaid v h = refl
none_billed Bundle v h = none_after v h
none_billed Unlimited v h = refl

kb_billed : (f : Form) (v h c : ℕ) → c ≤ 1000000000 → billed_kb f v h c ≡ c - free_kb f v h
unfolding billed_kb
kb_billed Prepaid v h c l = omega arith
kb_billed Bundle v h c l = some_after v h c
kb_billed Unlimited v h c l = omega arith

kind_billed : (p : Plan) (h : ℕ) (k : Kind) (c : ℕ) → c ≤ 1000000000 → billed_of p h (only k c) ≡ only k (c - free_of p h k)
unfolding billed_of
kind_billed p h Data c l = rw (kb_billed p.form p.volume h c l) refl
kind_billed p h Outgoing c l = let e : c - 0 ≡ c = omega arith in rw (none_billed p.form p.volume h, e) refl
kind_billed p h Incoming c l = let e : c - 1000000000 ≡ 0 = omega arith in rw (none_billed p.form p.volume h, e) refl
kind_billed p h Sms c l = let e : c - 0 ≡ c = omega arith in rw (none_billed p.form p.volume h, e) refl

nothing : (k : Kind) (c : ℕ) → c ≤ 1000000000 → zero_units ≡ only k (c - 1000000000)
nothing k c l = let e : c - 1000000000 ≡ 0 = omega arith in rw e (none k)
  where
    none : (j : Kind) → zero_units ≡ only j 0
    none Data = refl
    none Outgoing = refl
    none Incoming = refl
    none Sms = refl

no_units_billed : (p : Plan) (h : ℕ) (k : Kind) (c : ℕ) → c ≤ 1000000000 → billed_of p h zero_units ≡ only k (c - 1000000000)
unfolding billed_of
no_units_billed p h k c l = rw (none_billed p.form p.volume h) (nothing k c l)

pub billed_here : (w : Option Place) (p : Plan) (h : ℕ) (k : Kind) (c : ℕ) → c ≤ 1000000000 → billed_of p h (billable w (only k c)) ≡ only k (c - cond (bears w) (free_of p h k) 1000000000)
unfolding billable
billed_here None p h k c l = no_units_billed p h k c l
billed_here (Some Home) p h k c l = kind_billed p h k c l
billed_here (Some Zone) p h k c l = kind_billed p h k c l
billed_here (Some Elsewhere) p h k c l = no_units_billed p h k c l

none_past : (l : Option ℕ) (r : ℕ) → after_allowance l r 0 ≡ 0
unfolding after_allowance
none_past None r = refl
none_past (Some m) r = none_after m r

some_past : (l : Option ℕ) (r c : ℕ) → c ≤ 1000000000 → after_allowance l r c ≡ c - left_of l r
unfolding after_allowance
some_past None r c h = omega arith
some_past (Some m) r c h = some_after m r c

no_part : (s : ServiceState) → surcharged_of s 0 0 ≡ 0
unfolding surcharged_of
no_part Clear = refl
no_part (Warned k) = refl
no_part Surcharged = refl

some_part : (s : ServiceState) (past inside c : ℕ) → past ≡ c - inside → surcharged_of s past c ≡ c - inside_part s inside
unfolding surcharged_of
some_part Clear past inside c e = e
some_part (Warned k) past inside c e = e
some_part Surcharged past inside c e = omega arith

kind_surcharged : (s : Services) (l : Option ℕ) (r : ℕ) (k : Kind) (c : ℕ) → c ≤ 1000000000 → surcharged_units s l r (only k c) ≡ only k (c - inside_of s l r k)
unfolding surcharged_units
kind_surcharged s l r Data c h = rw (some_part s.internet (after_allowance l r c) (left_of l r) c (some_past l r c h), no_part s.calls, no_part s.messages) refl
kind_surcharged s l r Outgoing c h = rw (none_past l r, no_part s.internet, some_part s.calls 0 1000000000 c (omega arith), no_part s.calls, no_part s.messages) refl
kind_surcharged s l r Incoming c h = rw (none_past l r, no_part s.internet, some_part s.calls 0 1000000000 c (omega arith), no_part s.calls, no_part s.messages) refl
kind_surcharged s l r Sms c h = rw (none_past l r, no_part s.internet, no_part s.calls, some_part s.messages 0 1000000000 c (omega arith)) refl

no_units_surcharged : (s : Services) (l : Option ℕ) (r : ℕ) → surcharged_units s l r zero_units ≡ zero_units
unfolding surcharged_units
no_units_surcharged s l r = rw (none_past l r, no_part s.internet, no_part s.calls, no_part s.messages) refl

pub surcharged_here : (w : Option Place) (s : Services) (l : Option ℕ) (r : ℕ) (k : Kind) (c : ℕ) → c ≤ 1000000000
    → surcharged_units s l r (roaming w (only k c)) ≡ only k (c - cond (in_zone w) (inside_of s l r k) 1000000000)
unfolding roaming
surcharged_here None s l r k c h = no_units_surcharged s l r ∙ nothing k c h
surcharged_here (Some Home) s l r k c h = no_units_surcharged s l r ∙ nothing k c h
surcharged_here (Some Zone) s l r k c h = kind_surcharged s l r k c h
surcharged_here (Some Elsewhere) s l r k c h = no_units_surcharged s l r ∙ nothing k c h

-- so home charges and surcharges grow by what the kind's own do
home_one : (p : Plan) (u : Units) (k : Kind) (x : ℕ)
    → home_charges_of p (u ⊕ only k x) + points k (price_of p k * of_kind k u) ≡ home_charges_of p u + points k (price_of p k * (of_kind k u + x))
unfolding home_charges_of
home_one p u Data x = simp add-zero (omega arith)
home_one p u Outgoing x = simp add-zero (omega arith)
home_one p u Incoming x = simp (add-zero, zero-mul) (omega arith)
home_one p u Sms x = simp add-zero (omega arith)

extra_one : (u t : Units) (k : Kind) (x : ℕ) → surcharges_of (u ⊕ t ⊗ only k x) + points k (of_kind k u) ≡ surcharges_of u + points k (of_kind k u + of_kind k t * x)
unfolding surcharges_of
extra_one u t Data x = simp (mul-zero, add-zero) (omega arith)
extra_one u t Outgoing x = simp (mul-zero, add-zero) (omega arith)
extra_one u t Incoming x = simp (mul-zero, add-zero) (omega arith)
extra_one u t Sms x = simp (mul-zero, add-zero) (omega arith)

module _ (a : State) (k : Kind) (c : ℕ) (w : Worked a) (h : c ≤ 1000000000) where
  home_quoted : home_after a (only k c) + points k (price_of a.plan k * of_kind k a.meters.billed)
      ≡ a.money.homecharges + points k (price_of a.plan k * (of_kind k a.meters.billed + (c - (quote_of a k).free)))
  unfolding home_after billed_after quote_of
  home_quoted =
      rw (billed_here a.place a.plan a.quota.monthly k c h, w.home_is) (home_one a.plan a.meters.billed k _)

  extra_quoted : extra_after a (only k c) + points k (of_kind k a.meters.basis)
      ≡ a.money.surcharges + points k (of_kind k a.meters.basis + of_kind k (caps_on built_in a.day) * (c - (quote_of a k).inside))
  unfolding extra_after basis_after newly_surcharged quote_of
  extra_quoted =
      rw (surcharged_here a.place a.services a.quota.allowance a.quota.roamed k c h, w.extra_is)
      (extra_one a.meters.basis (caps_on built_in a.day) k _)

  -- the cost, with what the kind has come to so far, is what the kind's own figures say
  pub cost_quoted : cost a (only k c) + spent_so_far a k ≡ quoted (quote_of a k) c
  unfolding cost quoted quote_of
  cost_quoted = omega (arith, home_quoted, extra_quoted, home_grows a (only k c) w, extra_grows a (only k c) w)

pub none_quoted : (a : State) (k : Kind) → quoted (quote_of a k) 0 ≡ spent_so_far a k
unfolding quoted quote_of
none_quoted a k = simp (none_less, mul-zero, add-zero)
  where
    none_less : (x : ℕ) → 0 - x ≡ 0
    none_less x = omega arith

-- what a record is charged as
charged_least : (w : Option Place) (k : Kind) (n : ℕ) → charged_as w k n ≡ max n (least_charged w k)
unfolding charged_as
charged_least w Data n = omega arith
charged_least w Outgoing n = go (in_zone w)
  where
    go : (b : Bool) → cond b (max n 30) n ≡ max n (cond b 30 0)
    go true = refl
    go false = omega arith
charged_least w Incoming n = omega arith
charged_least w Sms n = omega arith

-- the meters can take what they have room for
below : (x y m : ℕ) → x ≤ m → leb y (m - x) ≡ not (ltb m (x + y))
below x y m h = go (ltb m (x + y)) refl
  where
    go : (b : Bool) → ltb m (x + y) ≡ b → leb y (m - x) ≡ not b
    go true e = lt-leb y (m - x) (omega (arith, ltb-true m (x + y) e))
    go false e = le-leb y (m - x) (omega (arith, ltb-false m (x + y) e))

in_reach : (x m : ℕ) → x ≤ m → not (ltb m (x + 0)) ≡ true
in_reach x m h = rw (le-ltb m (x + 0) (omega arith)) refl

seconds_is : (a : State) (k : Kind) (n : ℕ) → Counters a → n ≤ 1000000000
    → leb (max n (least_charged a.place k)) (seconds_left a k) ≡ not (ltb 1000000000000 (a.meters.chargedseconds + (charged_units a.place k n).outgoing))
unfolding charged_units
seconds_is a Data n f h = le-leb (max n 0) 1000000000000 (omega arith) ∙ sym (in_reach _ _ f.charged_ok)
seconds_is a Outgoing n f h = rw (charged_least a.place Outgoing n) (below a.meters.chargedseconds _ 1000000000000 f.charged_ok)
seconds_is a Incoming n f h = le-leb (max n 0) 1000000000000 (omega arith) ∙ sym (in_reach _ _ f.charged_ok)
seconds_is a Sms n f h = le-leb (max n 0) 1000000000000 (omega arith) ∙ sym (in_reach _ _ f.charged_ok)

nor : (x y : Bool) → not x && not y ≡ not (x || y)
nor true y = refl
nor false y = refl

-- a use that the meters and the credit can take is within the kind's own figures
module _ (a : State) (k : Kind) (n : ℕ) (s : Steady a) (h : n ≤ 1000000000) where
  abbrev units : ℕ
  units = max n (least_charged a.place k)

  room_is : leb n (quote_of a k).room && leb units (seconds_left a k) ≡ not (overfills a k n)
  unfolding quote_of overfills
  room_is =
      let f = counters_tell a s.counters in
      ap₂ ◌&&◌ (below (of_kind k a.meters.lifetime) n 1000000000000 (kind_most k a s.counters)) (seconds_is a k n f h)
      ∙ nor (ltb 1000000000000 (of_kind k a.meters.lifetime + n)) (ltb 1000000000000 (a.meters.chargedseconds + (charged_units a.place k n).outgoing))

  funds_is : leb (quoted (quote_of a k) units) (quote_of a k).funds ≡ not (ltb a.money.credit (cost a (only k units)))
  unfolding quote_of
  funds_is = go (ltb a.money.credit (cost a (only k units))) refl
    where
      so : cost a (only k units) + spent_so_far a k ≡ quoted (quote_of a k) units
      so = cost_quoted a k units (charges_tell a s.charges).worked (omega (arith, least_most a (counters_tell a s.counters) k))

      go : (b : Bool) → ltb a.money.credit (cost a (only k units)) ≡ b → leb (quoted (quote_of a k) units) (quote_of a k).funds ≡ not b
      go true e = lt-leb (quoted (quote_of a k) units) (quote_of a k).funds (omega (arith, so, ltb-true a.money.credit (cost a (only k units)) e))
      go false e = le-leb (quoted (quote_of a k) units) (quote_of a k).funds (omega (arith, so, ltb-false a.money.credit (cost a (only k units)) e))

  pub within_is : within_quote (quote_of a k) n ≡ not (overfills a k n) && not (ltb a.money.credit (cost a (charged_units a.place k n)))
  unfolding within_quote charged_units quote_of
  within_is = rw (charged_least a.place k n) (ap₂ ◌&&◌ room_is funds_is)

-- more units are within the figures only if fewer are
points_grow : (k : Kind) (x y : ℕ) → x ≤ y → points k x ≤ points k y
points_grow Data x y h = omega arith
points_grow Outgoing x y h = omega arith
points_grow Incoming x y h = omega arith
points_grow Sms x y h = h

quoted_grows : (q : Quote) (c d : ℕ) → c ≤ d → quoted q c ≤ quoted q d
unfolding quoted
quoted_grows q c d h =
    let priced : q.billed + (c - q.free) ≤ q.billed + (d - q.free) = omega arith in
    let surcharged : c - q.inside ≤ d - q.inside = omega arith in
    let home = points_grow q.kind _ _ (mul-le-mul_left q.price priced) in
    let extra = points_grow q.kind (q.basis + q.cap * (c - q.inside)) (q.basis + q.cap * (d - q.inside)) (omega (arith, mul-le-mul_left q.cap surcharged)) in
    add-le-add home extra

pub within_less : (q : Quote) (m n : ℕ) → m ≤ n → within_quote q n ≡ true → within_quote q m ≡ true
unfolding within_quote
within_less q m n h e =
    let r = leb n q.room in
    let s = leb (max n q.least) q.seconds in
    let f = leb (quoted q (max n q.least)) q.funds in
    let least : max m q.least ≤ max n q.least = omega arith in
    let room : n ≤ q.room = leb-true _ _ (and_left r s (and_left (r && s) f e)) in
    let seconds : max n q.least ≤ q.seconds = leb-true _ _ (and_right r s (and_left (r && s) f e)) in
    let funds : quoted q (max n q.least) ≤ q.funds = leb-true _ _ (and_right (r && s) f e) in
    and_both _ _
    (and_both _ _ (le-leb m q.room (omega arith)) (le-leb (max m q.least) q.seconds (omega arith)))
    (le-leb _ _ (le_trans (quoted_grows q _ _ least) funds))

-- the claim
pub one_kinds_cost : OneKindsCost
one_kinds_cost a k c h l = omega (arith, none_quoted a k, cost_quoted a k c (charges_tell a h).worked l)
