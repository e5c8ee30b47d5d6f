-- What a file that was read holds: its plan, the number of its calls, and each call. Assumes nothing.
use mathlib.Core.Path.{◌≡◌, refl, sym, ◌∙◌, ap}
use mathlib.Core.Bool.{true}
use mathlib.Core.List.{List}
use Prim.Native.Nat.{ℕ, ◌*◌, ◌/◌, ◌%◌, ◌≤◌, ◌<◌}
use native.Mathlib.Omega.{arith}
use lib.ListN.{length, get_or}
use Rattle.std.proofs.lemmas.Result.{IfOk-at_ok}
use Rattle.tariff.specs.declared.Plan.{Plan}
use Rattle.tripfile.specs.declared.Trip.{Trip}
use Rattle.tariff.specs.Tests.{is_accepted}
use Rattle.tariff.specs.Plan.{plan_verdict, plan_with}
use Rattle.sections.specs.Find.{find_verdict, section_of, part_of}
use Rattle.sections.proofs.Table.{keeps}
use Rattle.sections.proofs.Finding.{found, section_is, parts_fit}
use Rattle.tripfile.specs.Bodies.{call, call_at, terms_in, calls_in, call_right, calls_right}
use Rattle.tripfile.specs.Reading.{read_verdict, trip, read_answer, read_of, calls_of}
use Rattle.tripfile.proofs.Accepted.{reads}
use Rattle.tripfile.proofs.Listed.{length_calls, call_in, right_at}
use Rattle.std.specs.Prelude.{Result, Ok, Err, ⊤}
use Rattle.tariff.specs.declared.Refusal.{Refusal}

-- an answer with a plan is that of an accepted read
pub record Answers (f : List ℕ) (p : Plan) (n : ℕ) : Type 0 where
  pub accepted : is_accepted (read_verdict f) ≡ true
  pub plan : plan_with (terms_in (part_of f 1)) ≡ p
  pub number : length (part_of f 2) / 8 ≡ n

pub answers : (f : List ℕ) (p : Plan) (n : ℕ) → read_of f ≡ Ok (trip p n) → Answers f p n
unfolding read_of
answers f p n h = go (read_verdict f) refl h
  where
    go : (v : Result ⊤ Refusal) → read_verdict f ≡ v → read_answer v (plan_with (terms_in (part_of f 1))) (length (part_of f 2) / 8) ≡ Ok (trip p n) → Answers f p n
    go (Ok tt) e g = record { accepted = ap is_accepted e; plan = IfOk-at_ok (λ (t : Trip). plan_with (terms_in (part_of f 1)) ≡ t.plan) g refl; number = IfOk-at_ok (λ (t : Trip). length (part_of f 2) / 8 ≡ t.calls) g refl }
    go (Err r) e g = cc

pub record Holds (f : List ℕ) (p : Plan) (n : ℕ) : Type 0 where
  pub plan : is_accepted (plan_verdict p) ≡ true
  pub some : 1 ≤ n
  pub few : n ≤ 8184
  pub found : is_accepted (find_verdict f 2) ≡ true
  pub long : length (section_of f 2) ≡ 8 * n
  pub count : length (calls_of f) ≡ n
  pub each : (i : ℕ) → i < n → get_or (calls_of f) i (call 0 0) ≡ call_at (section_of f 2) i
  pub right : (i : ℕ) → i < n → call_right (call_at (section_of f 2) i) ≡ true

pub holds : (f : List ℕ) (p : Plan) (n : ℕ) → read_of f ≡ Ok (trip p n) → Holds f p n
holds f p n h =
    let a = answers f p n h in
    let r = reads f a.accepted in
    let k = keeps f r.file in
    let x = found f 2 r.file r.two in
    let s = section_is f 2 x in
    let fit = parts_fit f 1 2 k r.one r.two (λ e. omega arith) in
    let m : length (part_of f 2) ≡ 8 * n = eight (length (part_of f 2)) n r.parts.eights a.number in
    let l : length (section_of f 2) ≡ 8 * n = ap length s ∙ m in
    let q : length (section_of f 2) / 8 ≡ n = omega arith in
    let c : length (calls_of f) ≡ n = length_calls (section_of f 2) ∙ q in
    let all : calls_right (calls_of f) ≡ true = ap (λ (b : List ℕ). calls_right (calls_in b)) s ∙ r.parts.right in
    let at : (i : ℕ) → i < n → get_or (calls_of f) i (call 0 0) ≡ call_at (section_of f 2) i = λ i u. call_in (section_of f 2) i (omega arith) in
    record {
      plan = ap (λ (y : Plan). is_accepted (plan_verdict y)) (sym a.plan) ∙ r.parts.plan;
      some = some_of (length (part_of f 2)) n r.parts.some m;
      few = omega (arith, fit, r.parts.long, k.short);
      found = x;
      long = l;
      count = c;
      each = at;
      right = λ i u. ap call_right (sym (at i u)) ∙ right_at (calls_of f) i all (omega arith);
    }
  where
    eight : (x n : ℕ) → x % 8 ≡ 0 → x / 8 ≡ n → x ≡ 8 * n
    eight x n e g = omega arith

    some_of : (x n : ℕ) → (x ≡ 0 → ⊥) → x ≡ 8 * n → 1 ≤ n
    some_of x n d e = omega (arith, d)
