-- Each answer is that of the first reason that holds.
use Rattle.std.proofs.Common.{ℕ, ◌≡◌, true, false, sym, ◌∙◌, ap, arith}
use Rattle.state.specs.Use.{charged_units, cost}
use Rattle.tariff.specs.declared.Units.{Units}
use Rattle.tariff.specs.declared.Kind.{Kind}
use Rattle.tariff.specs.Tests.{between}
use Rattle.state.specs.declared.State.{State}
use Rattle.state.specs.Reasons.{overfills}
use Rattle.state.specs.Needs.{Ready, Steady}
use Rattle.state.proofs.Billing.{bill_tells, affords}
use Rattle.state.proofs.Verdicts.{used_3, used_4, used_5, used_6, used_yes, ready, lifetime_room, few}
use Rattle.state.proofs.charging.use_of.Goals as goal

pub returns-then-not-placed : goal.returns-then-not-placed
returns-then-not-placed c =
    c.declined.ensures ∙ used_3 c.args.a c.args.k c.args.n (sym c.placed.ensures ∙ c.if-not-placed.true)

pub returns-then-not-within : goal.returns-then-not-within
returns-then-not-within c =
    c.declined-then-not-within.ensures
    ∙ used_4 c.args.a c.args.k c.args.n (sym c.placed.ensures ∙ c.if-not-placed.false)
    (sym c.within.ensures ∙ c.if-not-within.true)

pub overfills-requires : goal.overfills-requires
overfills-requires c = (c.requires.counters, few _ _ (sym c.within.ensures ∙ c.if-not-within.false))

pub returns-then-overfills : goal.returns-then-overfills
returns-then-overfills c =
    c.declined-then-overfills.ensures
    ∙ used_5 c.args.a c.args.k c.args.n (sym c.placed.ensures ∙ c.if-not-placed.false)
    (sym c.within.ensures ∙ c.if-not-within.false) (sym c.overfills.ensures ∙ c.if-overfills.true)

-- the units charged are such that the bill can be worked out
charged_ready : (a : State) (k : Kind) (n : ℕ) (c : Units) → Steady a → between 1 n 1000000000 ≡ true → overfills a k n ≡ false
    → c ≡ charged_units a.place k n → Ready a c
charged_ready a k n c s w o e = rw e (ready a k n s.counters (few _ _ w) o)

pub work_out-b-requires : goal.work_out-b-requires
work_out-b-requires c =
    charged_ready c.args.a c.args.k c.args.n _ c.requires (sym c.within.ensures ∙ c.if-not-within.false)
    (sym c.overfills.ensures ∙ c.if-overfills.false) c.charged_units-c.ensures

pub overflow_sub-b : goal.overflow_sub-b
overflow_sub-b c =
    let r = charged_ready c.args.a c.args.k c.args.n _ c.requires (sym c.within.ensures ∙ c.if-not-within.false)
    (sym c.overfills.ensures ∙ c.if-overfills.false) c.charged_units-c.ensures in
    omega (arith, (bill_tells _ _ _ c.requires r c.work_out-b.ensures).grown)

pub overflow_sub-b-2 : goal.overflow_sub-b-2
overflow_sub-b-2 c =
    let r = charged_ready c.args.a c.args.k c.args.n _ c.requires (sym c.within.ensures ∙ c.if-not-within.false)
    (sym c.overfills.ensures ∙ c.if-overfills.false) c.charged_units-c.ensures in
    omega (arith, (bill_tells _ _ _ c.requires r c.work_out-b.ensures).grown)

pub overflow_add-b : goal.overflow_add-b
overflow_add-b c =
    let r = charged_ready c.args.a c.args.k c.args.n _ c.requires (sym c.within.ensures ∙ c.if-not-within.false)
    (sym c.overfills.ensures ∙ c.if-overfills.false) c.charged_units-c.ensures in
    omega (arith, (bill_tells _ _ _ c.requires r c.work_out-b.ensures).grown)

pub returns-then-b-a : goal.returns-then-b-a
returns-then-b-a c =
    let w = sym c.within.ensures ∙ c.if-not-within.false in
    let o = sym c.overfills.ensures ∙ c.if-overfills.false in
    let r = charged_ready c.args.a c.args.k c.args.n _ c.requires w o c.charged_units-c.ensures in
    let t = bill_tells _ _ _ c.requires r c.work_out-b.ensures in
    let e : cost c.args.a c.charged_units-c.result ≡ cost c.args.a (charged_units c.args.a.place c.args.k c.args.n) = ap (cost c.args.a) c.charged_units-c.ensures in
    c.declined-then-b-a.ensures
    ∙ used_6 c.args.a c.args.k c.args.n (sym c.placed.ensures ∙ c.if-not-placed.false) w o (omega (arith, e, t.costs, c.if-b-a.true))

pub charge_on-requires : goal.charge_on-requires
charge_on-requires c =
    affords _ _ _ c.requires
    (charged_ready c.args.a c.args.k c.args.n _ c.requires (sym c.within.ensures ∙ c.if-not-within.false)
    (sym c.overfills.ensures ∙ c.if-overfills.false) c.charged_units-c.ensures)
    c.work_out-b.ensures c.if-b-a.false

pub spend-requires : goal.spend-requires
spend-requires c =
    let o = sym c.overfills.ensures ∙ c.if-overfills.false in
    let r = charged_ready c.args.a c.args.k c.args.n _ c.requires (sym c.within.ensures ∙ c.if-not-within.false) o c.charged_units-c.ensures in (
      affords _ _ _ c.requires r c.work_out-b.ensures c.if-b-a.false,
      rw c.only_of.ensures (lifetime_room c.args.a c.args.k c.args.n c.requires.counters o),
    )

pub returns : goal.returns
returns c =
    let w = sym c.within.ensures ∙ c.if-not-within.false in
    let o = sym c.overfills.ensures ∙ c.if-overfills.false in
    let r = charged_ready c.args.a c.args.k c.args.n _ c.requires w o c.charged_units-c.ensures in
    let t = bill_tells _ _ _ c.requires r c.work_out-b.ensures in
    let e : cost c.args.a c.charged_units-c.result ≡ cost c.args.a (charged_units c.args.a.place c.args.k c.args.n) = ap (cost c.args.a) c.charged_units-c.ensures in
    simp (c.spend.ensures, c.only_of.ensures, c.charge_on.ensures, c.charged_units-c.ensures)
    (used_yes c.args.a c.args.k c.args.n (sym c.placed.ensures ∙ c.if-not-placed.false) w o (omega (arith, e, t.costs, c.if-b-a.false)))
