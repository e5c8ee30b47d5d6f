-- The round trips, of the definitions that the contracts of `read`, `write` and `find` cite (trip-1, trip-2). Choice
-- (docs/DECISIONS.md, "Trip file"): other kinds. Assumes nothing.
use Rattle.std.specs.Prelude.{ℕ, ◌+◌, ◌*◌, ◌≤◌, ◌≡◌, List, ◌++◌, length, take, drop, Ok}
use Rattle.words.specs.Words.{Words, Bytes}
use Rattle.tariff.specs.declared.Plan.{Plan}
use Rattle.sections.specs.Table.{section_count, kind_at}
use Rattle.tripfile.specs.Bodies.{codes_of, numbers_of}
use Rattle.tripfile.specs.Reading.{trip, read_of, calls_of}
use Rattle.tripfile.specs.Writing.{written_of, buffer_of}

-- trip-1, trip-2: f reads as plan p and calls of the codes cs and the numbers ns
pub record ReadsAs (f : List ℕ) (p : Plan) (cs ns : List ℕ) : Type 0 where
  pub answer : read_of f ≡ Ok (trip p (length cs))
  pub codes : codes_of (calls_of f) ≡ cs
  pub numbers : numbers_of (calls_of f) ≡ ns

-- trip-1: where writing answered n bytes, the buffer's first n read as the same plan and calls
abbrev pub WrittenReadsBack : Type 0
WrittenReadsBack =
    (p : Plan) (cs ns buf : List ℕ) (n : ℕ) → Words cs → Words ns
    → written_of p cs ns buf ≡ Ok n
    → ReadsAs (take n (buffer_of p cs ns buf)) p cs ns

-- trip-2: a file of plan and calls alone, plan first
pub record PlanThenCalls (f : List ℕ) : Type 0 where
  pub two : section_count f ≡ 2
  pub first : kind_at f 0 ≡ 1
  pub second : kind_at f 1 ≡ 2

-- trip-2: plan p and the calls of f, written into a buffer, give f, and what is behind it stays
pub record WritesAs (p : Plan) (f buf : List ℕ) : Type 0 where
  pub answer : written_of p (codes_of (calls_of f)) (numbers_of (calls_of f)) buf ≡ Ok (length f)
  pub bytes : buffer_of p (codes_of (calls_of f)) (numbers_of (calls_of f)) buf ≡ f ++ drop (length f) buf

-- trip-2: so it is with each such file that is read, in any buffer with room
abbrev pub ReadWritesAgain : Type 0
ReadWritesAgain =
    (f buf : List ℕ) (p : Plan) (n : ℕ) → Bytes f → PlanThenCalls f
    → read_of f ≡ Ok (trip p n) → length f ≤ length buf
    → WritesAs p f buf

-- trip-2: plan and calls of f are accepted by the writer, and read back alike
pub record KeepsTrip (f buf : List ℕ) (p : Plan) (n : ℕ) : Type 0 where
  pub answer : written_of p (codes_of (calls_of f)) (numbers_of (calls_of f)) buf ≡ Ok (64 + 8 * n)
  pub again : ReadsAs (take (64 + 8 * n) (buffer_of p (codes_of (calls_of f)) (numbers_of (calls_of f)) buf)) p
      (codes_of (calls_of f)) (numbers_of (calls_of f))

-- trip-2: so it is with every file that is read, whatever else it holds
abbrev pub ReadKeepsTrip : Type 0
ReadKeepsTrip = (f buf : List ℕ) (p : Plan) (n : ℕ) → Bytes f → read_of f ≡ Ok (trip p n) → 64 + 8 * n ≤ length buf
    → KeepsTrip f buf p n
