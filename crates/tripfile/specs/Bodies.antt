-- The plan body and the calls body (file-7, file-8, refusal-15). Choice (docs/DECISIONS.md, "Trip file"): numbers of
-- uses and top-ups. Assumes nothing.
use Rattle.std.specs.Prelude.{ℕ, zero, suc, ◌+◌, ◌*◌, ◌/◌, ◌^◌, ◌<◌, Bool, true, ◌&&◌, not, List, [], ◌∷◌, ◌++◌, length, ltb, eqb}
use Rattle.words.specs.Words.{word}
use Rattle.tariff.specs.declared.Plan.{Plan}
use Rattle.tariff.specs.declared.Terms.{Terms}
use Rattle.tariff.specs.Tests.{between}
use Rattle.tariff.specs.Plan.{form_word}

-- file-7: the seven words of a plan body
unfoldable pub terms_in : List ℕ → Terms
terms_in b = record {
  form = word b 0;
  start = word b 1;
  pergb = word b 2;
  perminute = word b 3;
  persms = word b 4;
  fee = word b 5;
  volume = word b 6;
}

-- file-7, write-1: the words of a plan
unfoldable pub plan_words : Plan → List ℕ
plan_words p = form_word p.form ∷ p.start ∷ p.pergb ∷ p.perminute ∷ p.persms ∷ p.fee ∷ p.volume ∷ []

-- aid: each of these is a word, as in every accepted plan
pub record PlanFits (p : Plan) : Type 0 where
  pub start : p.start < 2 ^ 32
  pub gigabyte : p.pergb < 2 ^ 32
  pub minute : p.perminute < 2 ^ 32
  pub message : p.persms < 2 ^ 32
  pub money : p.fee < 2 ^ 32
  pub kilobytes : p.volume < 2 ^ 32

-- file-8: a code and a number
pub record Call : Type 0 where
  pub code : ℕ
  pub number : ℕ

-- aid: a call of a code and a number
abbrev pub call : ℕ → ℕ → Call
call c n = record { code = c; number = n }

-- file-8: call i of a body, from 0
abbrev pub call_at : List ℕ → ℕ → Call
call_at b i = call (word b (2 * i)) (word b (2 * i + 1))

-- aid: the first n calls of a body
unfoldable pub first_calls : List ℕ → ℕ → List Call
first_calls b zero = []
first_calls b (suc n) = first_calls b n ++ (call_at b n ∷ [])

-- file-8: all calls of a body
unfoldable pub calls_in : List ℕ → List Call
calls_in b = first_calls b (length b / 8)

-- file-8, write-1: the words of calls
unfoldable pub call_words : List Call → List ℕ
call_words [] = []
call_words (c ∷ cs) = c.code ∷ c.number ∷ call_words cs

-- write-1: calls given as a list of codes and one of numbers
unfoldable pub paired : List ℕ → List ℕ → List Call
paired [] ns = []
paired (c ∷ cs) [] = []
paired (c ∷ cs) (n ∷ ns) = call c n ∷ paired cs ns

-- file-8: the codes of calls
unfoldable pub codes_of : List Call → List ℕ
codes_of [] = []
codes_of (c ∷ cs) = c.code ∷ codes_of cs

-- file-8: and their numbers
unfoldable pub numbers_of : List Call → List ℕ
numbers_of [] = []
numbers_of (c ∷ cs) = c.number ∷ numbers_of cs

-- refusal-15: a known code, with a number that it may have
unfoldable pub call_right : Call → Bool
call_right c = between 1 c.code 7 && not (eqb c.code 1 && ltb 2 c.number)
    && not (eqb c.code 7 && not (eqb c.number 0))

-- refusal-15: so it is with every call of a list
unfoldable pub calls_right : List Call → Bool
calls_right [] = true
calls_right (c ∷ cs) = call_right c && calls_right cs
