-- What an accepted write and an accepted read tell. Assumes nothing.
use mathlib.Core.Path.{◌≡◌, refl, sym, ◌∙◌, ap}
use mathlib.Core.Bool.{Bool, true, false, cond, ◌&&◌, not}
use mathlib.Core.List.{List, ◌∷◌}
use Prim.Native.Nat.{ℕ, ◌%◌, ◌≤◌}
use native.Mathlib.Omega.{arith}
use lib.ListN.{length}
use lib.Dec.{leb, eqb}
use borrow.Author.Tests.{leb-true, ltb-false, eqb-true, eqb-false, eq-eqb, ne_eqb}
use Rattle.words.specs.Words.{word}
use Rattle.tariff.specs.declared.Plan.{Plan}
use Rattle.tripfile.specs.declared.Trip.{Trip}
use Rattle.tariff.specs.Tests.{because, verdict_of, is_accepted}
use Rattle.tariff.specs.Plan.{plan_reasons, plan_verdict, plan_with, terms_reasons, plan_answer, plan_of}
use Rattle.tariff.proofs.Tests.{and_left, and_right, first_fails, rest_accepts, not-false}
use Rattle.tariff.proofs.PlanLaws.{plan_ranged, opens_tells, known_form, form_known}
use Rattle.sections.specs.Table.{file_reasons, file_verdict}
use Rattle.sections.specs.Find.{just_once, part_of}
use Rattle.tariff.proofs.Verdicts.{then, verdict-append, then_both, and_three}
use Rattle.tripfile.specs.Bodies.{terms_in, calls_in, calls_right, paired, PlanFits}
use Rattle.tripfile.specs.Reading.{calls_body_right, body_reasons, read_reasons, read_verdict, trip, read_answer}
use Rattle.tripfile.specs.Writing.{file_size, counts_right, calls_reasons, write_reasons, write_verdict, Ready}
use Rattle.std.specs.Prelude.{Result, Ok, Err, ⊤}
use Rattle.tariff.specs.declared.Refusal.{Refusal}
use Rattle.tariff.specs.declared.Refusal.TheVariants.{NotOnce}

-- the fields of a plan that is accepted are words
pub plan_fits : (p : Plan) → is_accepted (plan_verdict p) ≡ true → PlanFits p
plan_fits p h =
    let o = opens_tells p h in
    let r = plan_ranged p o.ranges in
    omega (arith, r, o.late)

-- ---- a write

pub write_then : (p : Plan) (cs ns : List ℕ) (room : ℕ) → write_verdict p cs ns room ≡ then (plan_verdict p) (verdict_of (calls_reasons cs ns room))
unfolding write_verdict write_reasons plan_verdict
write_then p cs ns room = verdict-append (plan_reasons p) (calls_reasons cs ns room)

pub record Writes (p : Plan) (cs ns : List ℕ) (room : ℕ) : Type 0 where
  pub plan : is_accepted (plan_verdict p) ≡ true
  pub some : length cs ≡ 0 → ⊥
  pub few : length cs ≤ 8184
  pub same : length ns ≡ length cs
  pub right : calls_right (paired cs ns) ≡ true
  pub fits : file_size (length cs) ≤ room

pub writes : (p : Plan) (cs ns : List ℕ) (room : ℕ) → is_accepted (write_verdict p cs ns room) ≡ true → Writes p cs ns room
unfolding calls_reasons
writes p cs ns room h =
    let t = then_both (plan_verdict p) (verdict_of (calls_reasons cs ns room)) (ap is_accepted (sym (write_then p cs ns room)) ∙ h) in
    let h₁₅ = rest_accepts _ _ t.1 in
    let n = and_three (not (eqb (length cs) 0)) (leb (length cs) 8184) (eqb (length ns) (length cs)) (not-false (counts_right cs ns) (first_fails _ _ t.1)) in
    record {
      plan = t.0;
      some = eqb-false (length cs) 0 (not_yes (eqb (length cs) 0) n.0);
      few = leb-true _ _ n.1;
      same = eqb-true _ _ n.2;
      right = not-false (calls_right (paired cs ns)) (first_fails _ _ h₁₅);
      fits = ltb-false room (file_size (length cs)) (first_fails _ _ (rest_accepts _ _ h₁₅));
    }
  where
    not_yes : (b : Bool) → not b ≡ true → b ≡ false
    not_yes true e = sym e
    not_yes false e = refl

pub ready : (p : Plan) (cs ns : List ℕ) (room : ℕ) → Writes p cs ns room → Ready p cs ns room
ready p cs ns room w = record { plan = plan_fits p w.plan; few = w.few; same = w.same; fits = w.fits }

-- ---- a read

pub read_then : (f : List ℕ) → read_verdict f ≡ then (file_verdict f) (cond (not (just_once f 1 && just_once f 2)) (Err NotOnce) (verdict_of (body_reasons (part_of f 1) (part_of f 2))))
unfolding read_verdict read_reasons file_verdict verdict_of
read_then f = verdict-append (file_reasons f) (because NotOnce (not (just_once f 1 && just_once f 2)) ∷ body_reasons (part_of f 1) (part_of f 2))

-- of the bodies
pub record Bodies (p c : List ℕ) : Type 0 where
  pub long : length p ≡ 28
  pub some : length c ≡ 0 → ⊥
  pub eights : length c % 8 ≡ 0
  pub right : calls_right (calls_in c) ≡ true
  pub form : word p 0 ≤ 2
  pub plan : is_accepted (plan_verdict (plan_with (terms_in p))) ≡ true

pub bodies : (p c : List ℕ) → is_accepted (verdict_of (body_reasons p c)) ≡ true → Bodies p c
unfolding body_reasons terms_in
bodies p c h =
    let h₁₅ = rest_accepts _ _ h in
    let h₁ = rest_accepts _ _ h₁₅ in
    let known = form_known (terms_in p) h₁ in
    let n = and_three (eqb (length p) 28) (not (eqb (length c) 0)) (eqb (length c % 8) 0) (shift (eqb (length p) 28) (not (eqb (length c) 0)) (eqb (length c % 8) 0) (not-false (eqb (length p) 28 && calls_body_right c) (first_fails _ _ h))) in
    record {
      long = eqb-true _ _ n.0;
      some = eqb-false (length c) 0 (not_yes (eqb (length c) 0) n.1);
      eights = eqb-true _ _ n.2;
      right = not-false (calls_right (calls_in c)) (first_fails _ _ h₁₅);
      form = known;
      plan = ap is_accepted (sym (known_form (terms_in p) known)) ∙ h₁;
    }
  where
    shift : (a b c : Bool) → (a && (b && c)) ≡ true → (a && b && c) ≡ true
    shift true b c e = e
    shift false b c e = e

    not_yes : (b : Bool) → not b ≡ true → b ≡ false
    not_yes true e = sym e
    not_yes false e = refl

pub record Reads (f : List ℕ) : Type 0 where
  pub file : is_accepted (file_verdict f) ≡ true
  pub one : just_once f 1 ≡ true
  pub two : just_once f 2 ≡ true
  pub parts : Bodies (part_of f 1) (part_of f 2)

pub reads : (f : List ℕ) → is_accepted (read_verdict f) ≡ true → Reads f
reads f h =
    let both = just_once f 1 && just_once f 2 in
    let v = verdict_of (body_reasons (part_of f 1) (part_of f 2)) in
    let t = then_both (file_verdict f) (cond (not both) (Err NotOnce) v) (ap is_accepted (sym (read_then f)) ∙ h) in
    let x = go both v t.1 in
    record {
      file = t.0;
      one = and_left (just_once f 1) (just_once f 2) x.0;
      two = and_right (just_once f 1) (just_once f 2) x.0;
      parts = bodies (part_of f 1) (part_of f 2) x.1;
    }
  where
    go : (b : Bool) (v : Result ⊤ Refusal) → is_accepted (cond (not b) (Err NotOnce) v) ≡ true → (b ≡ true) × (is_accepted v ≡ true)
    go true v e = (refl, e)
    go false v e = (e, cc)

-- ---- the answer on bodies whose own tests pass is the plan's

abbrev pub read_by : Result Plan Refusal → ℕ → Result Trip Refusal
read_by (Ok p) n = Ok (trip p n)
read_by (Err r) n = Err r

pub bodies_read : (p c : List ℕ) (n : ℕ) → length p ≡ 28 → (length c ≡ 0 → ⊥) → length c % 8 ≡ 0 → calls_right (calls_in c) ≡ true
    → read_by (plan_of (terms_in p)) n ≡ read_answer (verdict_of (body_reasons p c)) (plan_with (terms_in p)) n
unfolding body_reasons verdict_of plan_of
bodies_read p c n long some eights right =
    rw (eq-eqb _ _ long, ne_eqb _ _ some, eq-eqb _ _ eights, right) (go (verdict_of (terms_reasons (terms_in p))))
  where
    go : (v : Result ⊤ Refusal) → read_by (plan_answer v (plan_with (terms_in p))) n ≡ read_answer v (plan_with (terms_in p)) n
    go (Ok tt) = refl
    go (Err r) = refl
