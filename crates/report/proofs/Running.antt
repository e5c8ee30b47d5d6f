-- A file that was read is run by its calls section, and reported on. Assumes nothing.
use Prim.Native.Nat.{ℕ}
use mathlib.Core.Path.{◌≡◌, sym, ◌∙◌, ap}
use mathlib.Core.Bool.{true}
use mathlib.Core.List.{List}
use lib.ListN.{replicate}
use Rattle.tariff.specs.declared.Plan.{Plan}
use Rattle.tariff.specs.Tests.{is_accepted}
use Rattle.sections.specs.Table.{file_verdict}
use Rattle.sections.specs.Find.{just_once, part_of, section_of}
use Rattle.sections.proofs.Finding.{found_both, section_is}
use Rattle.tripfile.specs.Reading.{trip, read_of}
use Rattle.tripfile.proofs.Held.{holds}
use Rattle.account.specs.declared.Opened.{Opened}
use Rattle.account.specs.declared.StateOpened.{StateOpened}
use Rattle.account.specs.Answers.{open_answer, opened_parts, account_of}
use Rattle.account.proofs.Returns.{opened_whole}
use Rattle.replay.specs.declared.Progress.{Progress}
use Rattle.replay.specs.Replay.{run_section, replayed_of}
use Rattle.report.specs.Statement.{figures_with, figures_of, trip_run}
use Rattle.std.specs.Prelude.{Ok}

-- a file that was read has its calls section, and what stands there are all its calls
pub section_once : (f : List ℕ) (p : Plan) (n : ℕ) → read_of f ≡ Ok (trip p n) → (is_accepted (file_verdict f) ≡ true) × (just_once f 2 ≡ true)
section_once f p n e = found_both f 2 (holds f p n e).found

section_part : (f : List ℕ) (p : Plan) (n : ℕ) → read_of f ≡ Ok (trip p n) → part_of f 2 ≡ section_of f 2
section_part f p n e = sym (section_is f 2 (holds f p n e).found)

pub file_replayed : (f : List ℕ) (p : Plan) (n : ℕ) → read_of f ≡ Ok (trip p n) → run_section (open_answer p).account (part_of f 2) ≡ trip_run f p
file_replayed f p n e = ap (run_section (open_answer p).account) (section_part f p n e)

-- the same with all but the log, and the log, held apart: the figures are those of the file's calls
pub trip_shown : (f : List ℕ) (p : Plan) (n : ℕ) (o : StateOpened) (l s last : List ℕ) (t : Progress) → read_of f ≡ Ok (trip p n) → o ≡ opened_parts (open_answer p) → l ≡ replicate 1599 0
    → s ≡ part_of f 2 → replayed_of t last ≡ run_section (account_of o.state l) s → figures_with t.state t.refused ≡ figures_of (trip_run f p)
trip_shown f p n o l s last t e g h d r =
    let whole : account_of o.state l ≡ (open_answer p).account = ap (λ (x : Opened). x.account) (opened_whole p o l g h) in
    let same : run_section (account_of o.state l) s ≡ trip_run f p = rw (whole, d) (file_replayed f p n e) in
    ap figures_of (r ∙ same)
