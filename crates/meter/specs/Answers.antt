-- What the library's functions return, and what they put into the caller's list (library-3, library-5). Choices
-- (docs/DECISIONS.md, "The library"): accepted; arguments of no call; the end of a calls section; a refused call.
-- Assumes nothing.
use Rattle.std.specs.Prelude.{ℕ, cond, List, [], ◌∷◌, ◌++◌, length, drop, Result, Ok, Err, ⊤}
use Rattle.state.specs.declared.Charge.{Charge}
use Rattle.state.specs.declared.Outcome.{Outcome}
use Rattle.state.specs.declared.Outcome.TheVariants.{Done, Charged, UpTo}
use Rattle.tariff.specs.declared.Refusal.{Refusal}
use Rattle.tariff.specs.Refusal.{refusal_number}

-- library-3: what is returned where a call is accepted
abbrev pub accepted : ℕ
accepted = 1000

-- library-3: arguments that are of no call
abbrev pub bad_argument : ℕ
bad_argument = 1001

-- library-3: no further call in a calls section
abbrev pub section_end : ℕ
section_end = 1002

-- library-5: numbers in the first places of the caller's list; those after them stay
unfoldable pub laid : List ℕ → List ℕ → List ℕ
laid ns ys = ns ++ drop (length ns) ys

-- library-3: a verdict; a refusal is its own number, 0 too
abbrev pub verdict_code : Result ⊤ Refusal → ℕ
verdict_code (Ok tt) = accepted
verdict_code (Err r) = refusal_number r

-- library-3: a call's answer
abbrev pub answer_code : Result Outcome Refusal → ℕ
answer_code (Ok x) = accepted
answer_code (Err r) = refusal_number r

-- use-14, use-15, half-7: what a use tells, as five numbers
abbrev pub charge_numbers : Charge → List ℕ
charge_numbers c = c.home ∷ c.extra ∷ c.surcharged ∷ c.charged ∷ cond c.notice 1 0 ∷ []

-- library-5: a use puts its charge, Afford its number, a refusal nothing
abbrev pub answer_laid : Result Outcome Refusal → List ℕ → List ℕ
answer_laid (Ok Done) ys = ys
answer_laid (Ok (Charged c)) ys = laid (charge_numbers c) ys
answer_laid (Ok (UpTo n)) ys = laid (n ∷ []) ys
answer_laid (Err r) ys = ys
