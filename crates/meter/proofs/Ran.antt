-- The calls of a file on the account that numbers stand for, and what files answer. Assumes nothing.
use Prim.Native.Nat.{ℕ}
use mathlib.Core.Path.{◌≡◌, refl, sym, ◌∙◌, ap}
use mathlib.Core.Bool.{true}
use mathlib.Core.List.{List, [], ◌∷◌, ◌++◌}
use lib.ListN.{length, take, drop}
use Rattle.tariff.specs.declared.Plan.{Plan}
use Rattle.tariff.specs.Tests.{is_accepted}
use Rattle.tariff.specs.Plan.{plan_verdict}
use Rattle.tariff.proofs.Tests.{and_left, and_right}
use Rattle.state.specs.Sound.{allowance_fits}
use Rattle.account.specs.declared.Account.{Account}
use Rattle.account.specs.declared.Call.{Call}
use Rattle.account.specs.Whole.{sound}
use Rattle.account.specs.Calls.{step}
use Rattle.account.specs.Answers.{open_answer}
use Rattle.account.proofs.Kept.{sound_tells}
use Rattle.account.proofs.Claimed.{open_tells_sound}
use Rattle.account.proofs.Returns.{step_size}
use Rattle.machine.specs.Machine as machine
use Rattle.ledger.specs.Lists.{run}
use Rattle.ledger.proofs.Claims.{sound_stays_sound}
use Rattle.sections.specs.Find.{just_once, find_verdict, part_of, part_start, part_length, section_of, section_start, part_extent}
use Rattle.sections.specs.declared.Extent.{Extent}
use Rattle.sections.proofs.Finding.{found_both, section_is, length_part}
use Rattle.sections.proofs.Table.{keeps}
use Rattle.tariff.proofs.Verdicts.{accepted_is}
use Rattle.tripfile.specs.declared.Trip.{Trip}
use Rattle.tripfile.specs.Bodies as File
use Rattle.tripfile.specs.Reading.{read_of, calls_of}
use Rattle.tripfile.proofs.Held.{holds}
use Rattle.replay.specs.declared.Progress.{Progress}
use Rattle.replay.specs.declared.Replayed.{Replayed}
use Rattle.replay.specs.Replay.{known, coded_calls, replay_of, run_section, replayed_of}
use Rattle.report.specs.declared.Figures.{Figures}
use Rattle.report.specs.Statement.{figures_with, figures_of, trip_run, report_on, report_of}
use Rattle.numbers.specs.Numbers.{state_numbers, log_part, account_numbers, account_from, is_account, Writable}
use Rattle.numbers.proofs.Back.{numbers_back}
use Rattle.meter.specs.Answers.{laid}
use Rattle.meter.specs.Calls.{sound_numbers}
use Rattle.meter.specs.Files.{find_laid, run_code, run_numbers, run_laid}
use Rattle.report.proofs.Running.{section_once}
use Rattle.sections.specs.Table.{file_verdict}
use Rattle.state.specs.declared.State.{State}
use Rattle.account.specs.Answers.{account_of}
use Rattle.numbers.proofs.Back.{account_length}
use Rattle.meter.proofs.Held.{account_again, joined_length, log_new, writable}
use Rattle.tariff.specs.declared.Refusal.{Refusal}
use Rattle.std.specs.Prelude.{Option, None, Result, Ok, Err}

-- what sound numbers stand for
pub stands : (xs : List ℕ) → sound_numbers xs ≡ true → is_account xs ≡ true
unfolding sound_numbers
stands xs h = and_left (is_account xs) (sound (account_from xs)) h

pub is_sound_there : (xs : List ℕ) → sound_numbers xs ≡ true → sound (account_from xs) ≡ true
unfolding sound_numbers
is_sound_there xs h = and_right (is_account xs) (sound (account_from xs)) h

-- a list of calls keeps the log's size, and a sound account sound
run_size : (a : Account) (cs : List Call) → length a.log ≡ 1599 → length (run a cs).log ≡ 1599
unfolding machine.run machine.step step
run_size a [] h = h
run_size a (c ∷ cs) h = run_size (step a c) cs (step_size a c h)

pub ran_size : (a : Account) (cs : List File.Call) → length a.log ≡ 1599 → length (replay_of a cs).account.log ≡ 1599
unfolding replay_of
ran_size a cs h = run_size a (known (coded_calls cs)) h

pub ran_sound : (a : Account) (cs : List File.Call) → sound a ≡ true → sound (replay_of a cs).account ≡ true
unfolding replay_of
ran_sound a cs h = sound_stays_sound a h (known (coded_calls cs))

-- what a run leaves, from its parts
module _ (xs s l : List ℕ) (t : Progress) (h : sound_numbers xs ≡ true) (e : replayed_of t l ≡ run_section (account_from xs) s) where
  state_left : t.state ≡ (run_section (account_from xs) s).account.state
  state_left = ap (λ (x : Replayed). x.account.state) e

  log_left : l ≡ (run_section (account_from xs) s).account.log
  log_left = ap (λ (x : Replayed). x.account.log) e

  pub left_length : length l ≡ 1599
  left_length = ap length log_left ∙ ran_size (account_from xs) _ (numbers_back xs (stands xs h)).sized

  pub left_writable : Writable t.state
  left_writable = rw state_left (writable _ (sound_tells _ (ran_sound (account_from xs) _ (is_sound_there xs h))))

  pub left_numbers : log_part (l ++ drop 1599 xs) ++ state_numbers t.state ≡ account_numbers (run_section (account_from xs) s).account
  left_numbers = unfold account_numbers in
      (ap (λ (ys : List ℕ). ys ++ state_numbers t.state) (log_new l xs left_length ∙ log_left)
      ∙ ap (λ (x : Replayed). (run_section (account_from xs) s).account.log ++ state_numbers x.account.state) e)

  pub left_refused : t.refused ≡ (run_section (account_from xs) s).refused
  left_refused = ap (λ (x : Replayed). x.refused) e

-- the same from the state and the log's part that the calls were made on
module _ (xs m : List ℕ) (b : State) (h : sound_numbers xs ≡ true) (e : b ≡ (account_from xs).state) (f : m ≡ take 1599 xs) where
  pub said_sound : sound (account_of b m) ≡ true
  said_sound = ap sound (account_again xs b m e f) ∙ is_sound_there xs h

  module _ (l s : List ℕ) (t : Progress) (g : replayed_of t l ≡ run_section (account_of b m) s) where
    ran_there : replayed_of t l ≡ run_section (account_from xs) s
    ran_there = g ∙ ap (λ (a : Account). run_section a s) (account_again xs b m e f)

    pub run_settles : (length (l ++ drop 1599 xs) ≡ 1649) × Writable t.state
    run_settles = (joined_length l xs (left_length xs s l t h ran_there) (account_length xs (stands xs h)), left_writable xs s l t h ran_there)

    pub run_refused : t.refused ≡ (run_section (account_from xs) s).refused
    run_refused = left_refused xs s l t h ran_there

    pub run_left : log_part (l ++ drop 1599 xs) ++ state_numbers t.state ≡ account_numbers (run_section (account_from xs) s).account
    run_left = left_numbers xs s l t h ran_there

-- a file that was read has its calls section, whose calls are the file's
pub section_there : (f : List ℕ) (t : Trip) → read_of f ≡ Ok t → part_of f 2 ≡ section_of f 2
section_there f t e = sym (section_is f 2 (holds f t.plan t.calls e).found)

pub section_two : (f : List ℕ) (t : Trip) → read_of f ≡ Ok t → (is_accepted (file_verdict f) ≡ true) × (just_once f 2 ≡ true)
section_two f t e = section_once f t.plan t.calls e

-- the cases of a run
module _ (xs f ys : List ℕ) where
  pub run_done : (t : Trip) (s zs ws : List ℕ) (r : ℕ) → sound_numbers xs ≡ true → read_of f ≡ Ok t → s ≡ part_of f 2
      → r ≡ (run_section (account_from xs) s).refused → zs ≡ account_numbers (run_section (account_from xs) s).account → ws ≡ laid (r ∷ []) ys
      → (1000 ≡ run_code xs f) × ((zs ≡ run_numbers xs f) × (ws ≡ run_laid xs f ys))
  unfolding run_code run_numbers run_laid
  run_done t s zs ws r h e d a b c =
      let same : run_section (account_from xs) s ≡ replay_of (account_from xs) (calls_of f) = ap (run_section (account_from xs)) (d ∙ section_there f t e) in
      (rw (h, e) refl, (rw (h, e) (b ∙ ap (λ (x : Replayed). account_numbers x.account) same), rw (h, e) (c ∙ ap (λ (k : ℕ). laid (k ∷ []) ys) (a ∙ ap (λ (x : Replayed). x.refused) same))))

-- a file's calls lead to a sound account, and the limit of a statement is that account's
opened_sound : (p : Plan) → is_accepted (plan_verdict p) ≡ true → sound (open_answer p).account ≡ true
opened_sound p h = (open_tells_sound p).taken (unfold open_answer in accepted_is (plan_verdict p) h)

trip_sound : (f : List ℕ) (p : Plan) → is_accepted (plan_verdict p) ≡ true → sound (trip_run f p).account ≡ true
trip_sound f p h = ran_sound (open_answer p).account (calls_of f) (opened_sound p h)

limit_in : Result Figures Refusal → Option ℕ
limit_in (Ok x) = x.limit
limit_in (Err n) = None

limit_of : (f : List ℕ) (p : Plan) → sound (trip_run f p).account ≡ true → allowance_fits (figures_of (trip_run f p)).limit ≡ true
unfolding figures_with
limit_of f p s = (sound_tells _ s).counters.allowance_ok

pub limit_fits : (f : List ℕ) (x : Figures) → report_of f ≡ Ok x → allowance_fits x.limit ≡ true
unfolding report_of report_on limit_in
limit_fits f x e = go (read_of f) refl e
  where
    go : (r : Result Trip Refusal) → read_of f ≡ r → report_on f r ≡ Ok x → allowance_fits x.limit ≡ true
    go (Ok t) d g = sym (ap (λ (r : Result Figures Refusal). allowance_fits (limit_in r)) g) ∙ limit_of f t.plan (trip_sound f t.plan (holds f t.plan t.calls d).plan)
    go (Err n) d g = cc

-- a section that is found lies where its entry says
pub found_length : (f : List ℕ) (k : ℕ) → find_verdict f k ≡ (Ok tt) → (part_start f k ≡ section_start f k) × ((part_extent f k).length ≡ length (section_of f k))
unfolding section_start part_length
found_length f k e =
    let h : is_accepted (find_verdict f k) ≡ true = ap is_accepted e in
    let b = found_both f k h in
    (rw e refl, sym (ap length (section_is f k h) ∙ length_part f k (keeps f b.0) b.1))

pub found_laid : (f : List ℕ) (k : ℕ) (ys zs : List ℕ) (x : Extent) → find_verdict f k ≡ (Ok tt) → x ≡ part_extent f k → zs ≡ laid (x.start ∷ x.length ∷ []) ys → zs ≡ find_laid f k ys
unfolding find_laid
found_laid f k ys zs x e d g =
    let n = found_length f k e in
    rw e (g ∙ (ap (λ (y : Extent). laid (y.start ∷ y.length ∷ []) ys) d ∙ λ i. laid (n.0 i ∷ n.1 i ∷ []) ys))
