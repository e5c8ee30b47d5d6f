-- What reading a file of the bytes f answers (refusal-10 to refusal-15, refusal-1, refusal-2, order-4, file-9). Choices
-- (docs/DECISIONS.md, "Trip file"): order of 13, 14, 15, 1, 17, 18, 2; 13 in reading; what reading hands back; other
-- kinds. Assumes nothing.
use Rattle.std.specs.Prelude.{ℕ, ◌/◌, ◌%◌, Bool, ◌&&◌, not, List, ◌∷◌, ◌++◌, length, eqb, Result, Ok, Err, ⊤}
use Rattle.tariff.specs.declared.Plan.{Plan}
use Rattle.tariff.specs.Tests.{Reason, because, verdict_of}
use Rattle.tariff.specs.Plan.{plan_with, terms_reasons}
use Rattle.sections.specs.Table.{file_reasons}
use Rattle.sections.specs.Find.{just_once, part_of, section_of}
use Rattle.tripfile.specs.declared.Trip.{Trip}
use Rattle.tripfile.specs.Bodies.{Call, terms_in, calls_in, calls_right}
use Rattle.tariff.specs.declared.Refusal.{Refusal}
use Rattle.tariff.specs.declared.Refusal.TheVariants.{NotOnce, BodyLength, CallForm}

-- refusal-14: some whole calls
abbrev pub calls_body_right : List ℕ → Bool
calls_body_right b = not (eqb (length b) 0) && eqb (length b % 8) 0

-- order-4, refusal-14, refusal-15, fault-1: sizes, calls, then the plan's words
unfoldable pub body_reasons : List ℕ → List ℕ → List Reason
body_reasons p c =
    because BodyLength (not (eqb (length p) 28 && calls_body_right c))
    ∷ because CallForm (not (calls_right (calls_in c)))
    ∷ terms_reasons (terms_in p)

-- order-4, refusal-13, file-9: of Read, in order
unfoldable pub read_reasons : List ℕ → List Reason
read_reasons f = file_reasons f
    ++ (because NotOnce (not (just_once f 1 && just_once f 2)) ∷ body_reasons (part_of f 1) (part_of f 2))

-- order-1: the first of these that holds
unfoldable pub read_verdict : List ℕ → Result ⊤ Refusal
read_verdict f = verdict_of (read_reasons f)

-- aid: a plan with a number of calls
abbrev pub trip : Plan → ℕ → Trip
trip p n = record { plan = p; calls = n }

-- form-8, order-2: plan and number of calls, or the number alone
abbrev pub read_answer : Result ⊤ Refusal → Plan → ℕ → Result Trip Refusal
read_answer (Ok tt) p n = Ok (trip p n)
read_answer (Err r) p n = Err r

-- file-7, file-8, file-9: what reading the file answers
unfoldable pub read_of : List ℕ → Result Trip Refusal
read_of f = read_answer (read_verdict f) (plan_with (terms_in (part_of f 1))) (length (part_of f 2) / 8)

-- file-8: the calls of its calls section
abbrev pub calls_of : List ℕ → List Call
calls_of f = calls_in (section_of f 2)
