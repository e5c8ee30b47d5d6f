-- What a reader hands out of a file that is read are the file's calls. Assumes nothing.
use mathlib.Core.Path.{◌≡◌, refl, ◌∙◌, ap}
use mathlib.Core.List.{List, [], ◌∷◌, ◌++◌}
use Prim.Native.Nat.{ℕ, zero, suc, ◌/◌}
use native.Mathlib.Omega.{arith}
use lib.ListN.{length, replicate}
use Rattle.sections.specs.Find.{section_of}
use Rattle.tripfile.specs.Bodies as B
use Rattle.tripfile.specs.Bodies.{call_at, first_calls, calls_in}
use Rattle.tripfile.proofs.Held.{holds}
use Rattle.std.specs.Prelude.{Option, Some, None}
use Rattle.reader.specs.declared.CodedCall.{CodedCall}
use Rattle.reader.specs.Handed.{first_steps}
use Rattle.reader.proofs.Handing.{hands_out_calls}
use Rattle.report.specs.Handed.{steps_of, ReaderHandsOutCalls}

steps_more : (cs : List B.Call) (c : B.Call) → steps_of (cs ++ (c ∷ [])) ≡ steps_of cs ++ (Some (record { code = c.code; number = c.number }) ∷ [])
unfolding steps_of
steps_more [] c = refl
steps_more (x ∷ cs) c = rw (steps_more cs c)

first_same : (s : List ℕ) (n : ℕ) → first_steps s n ≡ steps_of (first_calls s n)
unfolding first_steps first_calls steps_of
first_same s zero = refl
first_same s (suc n) = rw (first_same s n, steps_more (first_calls s n) (call_at s n)) refl

pub reader_hands_out_calls : ReaderHandsOutCalls
unfolding calls_in
reader_hands_out_calls f p n more e =
    let h = holds f p n e in
    let s = section_of f 2 in
    let k : length s / 8 ≡ n = omega (arith, h.long) in
    let all = rw k at (hands_out_calls s more).0 in
    (all ∙ rw k (ap (λ (xs : List (Option CodedCall)). xs ++ replicate more None) (first_same s n)), h.count)
