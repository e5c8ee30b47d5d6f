-- The file that is written, and what stands in the buffer (write-1, write-2, refusal-14 to refusal-16, order-4).
-- Choices (docs/DECISIONS.md, "Trip file"): the writer's room; codes and numbers of unequal count. Assumes nothing.
use Rattle.std.specs.Prelude.{ℕ, ◌+◌, ◌*◌, ◌≤◌, ◌≡◌, Bool, ◌&&◌, not, List, [], ◌∷◌, ◌++◌, length, drop, leb, ltb, eqb, Result, Ok, Err, ⊤}
use Rattle.words.specs.Words.{bytes_of, total, closing_word}
use Rattle.tariff.specs.declared.Plan.{Plan}
use Rattle.tariff.specs.Tests.{Reason, because, verdict_of}
use Rattle.tariff.specs.Plan.{plan_reasons}
use Rattle.tripfile.specs.Bodies.{Call, plan_words, call_words, paired, calls_right, PlanFits}
use Rattle.tariff.specs.declared.Refusal.{Refusal}
use Rattle.tariff.specs.declared.Refusal.TheVariants.{BodyLength, CallForm, NoRoom}

-- write-1, refusal-16: the bytes of a file of n calls
abbrev pub file_size : ℕ → ℕ
file_size n = 64 + 8 * n

-- write-1, file-5: the words after the second
unfoldable pub later_words : Plan → List Call → List ℕ
later_words p cs = 2 ∷ 1 ∷ 36 ∷ 28 ∷ 2 ∷ 64 ∷ 8 * length cs ∷ (plan_words p ++ call_words cs)

-- write-1, file-2, file-3: the file's words
unfoldable pub file_words : Plan → List Call → List ℕ
file_words p cs = file_size (length cs) ∷ closing_word (file_size (length cs) + total (later_words p cs))
    ∷ later_words p cs

-- write-1, form-6: its bytes
abbrev pub file_of : Plan → List Call → List ℕ
file_of p cs = bytes_of (file_words p cs)

-- refusal-14: as many codes as numbers, 1 to 8,184
abbrev pub counts_right : List ℕ → List ℕ → Bool
counts_right cs ns = not (eqb (length cs) 0) && leb (length cs) 8184 && eqb (length ns) (length cs)

-- order-4, refusal-14, refusal-15, refusal-16: of codes, numbers and the buffer's length
unfoldable pub calls_reasons : List ℕ → List ℕ → ℕ → List Reason
calls_reasons cs ns room =
    because BodyLength (not (counts_right cs ns))
    ∷ because CallForm (not (calls_right (paired cs ns)))
    ∷ because NoRoom (ltb room (file_size (length cs)))
    ∷ []

-- order-4: the plan's reasons, then these
unfoldable pub write_reasons : Plan → List ℕ → List ℕ → ℕ → List Reason
write_reasons p cs ns room = plan_reasons p ++ calls_reasons cs ns room

-- order-1: the first of these that holds
unfoldable pub write_verdict : Plan → List ℕ → List ℕ → ℕ → Result ⊤ Refusal
write_verdict p cs ns room = verdict_of (write_reasons p cs ns room)

-- aid: what filling the buffer asks, which the reasons see to
pub record Ready (p : Plan) (cs ns : List ℕ) (room : ℕ) : Type 0 where
  pub plan : PlanFits p
  pub few : length cs ≤ 8184
  pub same : length ns ≡ length cs
  pub fits : file_size (length cs) ≤ room

-- form-8, order-2: the bytes written, or the number alone
abbrev pub write_answer : Result ⊤ Refusal → ℕ → Result ℕ Refusal
write_answer (Ok tt) n = Ok n
write_answer (Err r) n = Err r

-- write-1, promise-1: what writing into a buffer answers
unfoldable pub written_of : Plan → List ℕ → List ℕ → List ℕ → Result ℕ Refusal
written_of p cs ns buf = write_answer (write_verdict p cs ns (length buf)) (file_size (length cs))

-- order-2, write-2: filled, or on a refusal as it was
abbrev pub filled_or_kept : Result ⊤ Refusal → List ℕ → List ℕ → List ℕ
filled_or_kept (Ok tt) filled kept = filled
filled_or_kept (Err r) filled kept = kept

-- write-1, write-2, form-6, promise-1: what stands in the buffer then
unfoldable pub buffer_of : Plan → List ℕ → List ℕ → List ℕ → List ℕ
buffer_of p cs ns buf = filled_or_kept (write_verdict p cs ns (length buf))
    (file_of p (paired cs ns) ++ drop (file_size (length cs)) buf) buf
