-- Trip files through the library, and the caps of a day (library-8 to library-10). Choices (docs/DECISIONS.md, "The
-- library"): the plan of a file that is run; a bad file on an unsound account; an unknown form in `meter_write`.
-- Assumes nothing.
use Rattle.std.specs.Prelude.{ℕ, Bool, cond, ◌&&◌, List, [], ◌∷◌, ◌++◌, length, leb, eqb, Option, Some, None, Result, Ok, Err}
use Rattle.tariff.specs.declared.Found.{Found}
use Rattle.tariff.specs.declared.Plan.{Plan}
use Rattle.tariff.specs.Tests.{is_accepted}
use Rattle.tariff.specs.Plan.{plan_of}
use Rattle.sections.specs.Find.{find_verdict, section_of, section_start}
use Rattle.tripfile.specs.declared.Trip.{Trip}
use Rattle.tripfile.specs.Reading.{read_of, calls_of}
use Rattle.tripfile.specs.Writing.{written_of, buffer_of}
use Rattle.reader.specs.declared.CodedCall.{CodedCall}
use Rattle.reader.specs.Calls.{position_after}
use Rattle.replay.specs.Replay.{replay_of}
use Rattle.report.specs.declared.Figures.{Figures}
use Rattle.numbers.specs.Numbers.{units_numbers, plan_numbers, allowance_number, terms_from}
use Rattle.numbers.specs.Numbers.{account_numbers, account_from}
use Rattle.meter.specs.Answers.{accepted, bad_argument, section_end, laid}
use Rattle.meter.specs.Calls.{sound_numbers}
use Rattle.tariff.specs.declared.Refusal.{Refusal}
use Rattle.tariff.specs.Refusal.{refusal_number}

-- library-8, statement-1: the nine figures in the order of the lines; L as in an account's numbers
abbrev pub figures_numbers : Figures → List ℕ
figures_numbers f =
    f.day
    ∷ f.paid
    ∷ f.credit
    ∷ f.home
    ∷ f.extra
    ∷ allowance_number f.limit
    ∷ f.roamed
    ∷ f.past
    ∷ f.refused
    ∷ []

-- library-8: accepted, or the number of a bad file
abbrev pub report_code : Result Figures Refusal → ℕ
report_code (Ok f) = accepted
report_code (Err r) = refusal_number r

-- library-8: the figures, or nothing
abbrev pub report_laid : Result Figures Refusal → List ℕ → List ℕ
report_laid (Ok f) ys = laid (figures_numbers f) ys
report_laid (Err r) ys = ys

-- library-8: accepted, or the number that declines the file
abbrev pub read_code : Result Trip Refusal → ℕ
read_code (Ok t) = accepted
read_code (Err r) = refusal_number r

-- library-8: the plan's seven numbers and how many calls there are
abbrev pub read_laid : Result Trip Refusal → List ℕ → List ℕ
read_laid (Ok t) ys = laid (plan_numbers t.plan ++ (t.calls ∷ [])) ys
read_laid (Err r) ys = ys

-- library-8, find-1: where the section starts and how many bytes it has
unfoldable pub find_laid : List ℕ → ℕ → List ℕ → List ℕ
find_laid f k ys = cond (is_accepted (find_verdict f k)) (laid (section_start f k ∷ length (section_of f k) ∷ []) ys) ys

-- library-8: writing, of a plan that is still seven numbers
abbrev pub written_by : Result Plan Refusal → List ℕ → List ℕ → List ℕ → Result ℕ Refusal
written_by (Ok p) cs ns buf = written_of p cs ns buf
written_by (Err r) cs ns buf = Err r

-- library-8: the buffer after it
abbrev pub buffer_by : Result Plan Refusal → List ℕ → List ℕ → List ℕ → List ℕ
buffer_by (Ok p) cs ns buf = buffer_of p cs ns buf
buffer_by (Err r) cs ns buf = buf

-- library-8: what writing returns
abbrev pub written_code : Result ℕ Refusal → ℕ
written_code (Ok n) = accepted
written_code (Err r) = refusal_number r

-- library-8: how many bytes the file has
abbrev pub written_laid : Result ℕ Refusal → List ℕ → List ℕ
written_laid (Ok n) ys = laid (n ∷ []) ys
written_laid (Err r) ys = ys

-- library-4: seven numbers of a plan, and room for the answer
unfoldable pub plan_with_room : List ℕ → List ℕ → Bool
plan_with_room ts ys = eqb (length ts) 7 && leb 1 (length ys)

-- library-4, library-8: with the arguments looked at first: what is returned
unfoldable pub write_code : List ℕ → List ℕ → List ℕ → List ℕ → List ℕ → ℕ
write_code ts cs ns buf ys = cond (plan_with_room ts ys)
    (written_code (written_by (plan_of (terms_from ts)) cs ns buf)) bad_argument

-- library-4, library-8: what is put
unfoldable pub write_laid : List ℕ → List ℕ → List ℕ → List ℕ → List ℕ → List ℕ
write_laid ts cs ns buf ys = cond (plan_with_room ts ys)
    (written_laid (written_by (plan_of (terms_from ts)) cs ns buf) ys) ys

-- library-4, library-8: the buffer
unfoldable pub write_buffer : List ℕ → List ℕ → List ℕ → List ℕ → List ℕ → List ℕ
write_buffer ts cs ns buf ys = cond (plan_with_room ts ys) (buffer_by (plan_of (terms_from ts)) cs ns buf) buf

-- library-3, library-8: accepted, or the section's end
abbrev pub step_code : Option CodedCall → ℕ
step_code (Some c) = accepted
step_code None = section_end

-- library-8, reader-1: code, number and the position after them
abbrev pub step_laid : List ℕ → ℕ → Option CodedCall → List ℕ → List ℕ
step_laid s at (Some c) ys = laid (c.code ∷ c.number ∷ position_after s at ∷ []) ys
step_laid s at None ys = ys

-- library-10, rows-2: the caps of a day, and how many rows were read
abbrev pub caps_numbers : Found → List ℕ
caps_numbers x = units_numbers x.caps ++ (x.read ∷ [])

-- library-9: 0 where the account is not sound, then the file's number
unfoldable pub run_code : List ℕ → List ℕ → ℕ
run_code xs f = cond (sound_numbers xs) (read_code (read_of f)) 0

-- library-9: the numbers after it, by what reading answers
abbrev pub numbers_by : List ℕ → List ℕ → Result Trip Refusal → List ℕ
numbers_by xs f (Ok t) = account_numbers (replay_of (account_from xs) (calls_of f)).account
numbers_by xs f (Err r) = xs

-- library-9: and by the account
unfoldable pub run_numbers : List ℕ → List ℕ → List ℕ
run_numbers xs f = cond (sound_numbers xs) (numbers_by xs f (read_of f)) xs

-- library-9: how many of the calls were refused, by what reading answers
abbrev pub laid_by : List ℕ → List ℕ → Result Trip Refusal → List ℕ → List ℕ
laid_by xs f (Ok t) ys = laid ((replay_of (account_from xs) (calls_of f)).refused ∷ []) ys
laid_by xs f (Err r) ys = ys

-- library-9: and by the account
unfoldable pub run_laid : List ℕ → List ℕ → List ℕ → List ℕ
run_laid xs f ys = cond (sound_numbers xs) (laid_by xs f (read_of f) ys) ys
