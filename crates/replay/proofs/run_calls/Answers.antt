-- Each turn runs the call that the reader hands out, and moves the reader past it.
use Rattle.std.proofs.Common.{◌≡◌, ◌≤◌, ◌<◌, sym, ◌∙◌, ap, ℕ, ◌+◌, ◌*◌, [], ◌∷◌, ◌++◌, arith, length, length-append}
use Rattle.std.specs.Prelude.{Some}
use Rattle.account.specs.Answers.{account_of}
use Rattle.reader.specs.Calls.{decoded}
use Rattle.reader.specs.declared.Reader.{Reader}
use Rattle.replay.specs.Replay.{run_first}
use Rattle.replay.proofs.Running.{run_none, passed_call, stays_known, turned, few_refused, all_taken}
use Rattle.replay.proofs.run_calls.Goals as goal

pub loop-c-init : goal.loop-c-init
loop-c-init c =
    let a = account_of c.args.from.state c.args.log.now in
    let r : c.into_iter-c-iterator.result.iter ≡ c.new.result = ap (λ t. t.iter) c.into_iter-c-iterator.ensures.into_iter_gives ∙ c.take-c-items.ensures.source in
    record {
      section = ap (λ (r : Reader). r.section.now) r ∙ ap (λ s. s.now) c.new.ensures.0;
      place = ap (λ (r : Reader). r.at) r ∙ c.new.ensures.1;
      left = omega (arith, ap (λ t. t.n) c.into_iter-c-iterator.ensures.into_iter_gives, c.take-c-items.ensures.count);
      run = ap (λ (n : ℕ). record { account = a; refused = n }) c.requires.1.none ∙ sym (run_none a c.args.section.now);
      known = c.requires.1.known;
    }

pub replay_with-t-requires : goal.replay_with-t-requires
replay_with-t-requires c =
    let l = c.loop-c in
    record {
      room = few_refused _ c.args.section.now (length l.yielded) c.args.n l.t l.log (omega (arith, l.invariant.left, c.in-Some.ensures.steps.1)) (omega (arith, c.ranges.n.fits)) l.invariant.run;
      known = l.invariant.known;
    }

pub loop-c-preserved : goal.loop-c-preserved
loop-c-preserved c =
    let l = c.loop-c in
    let s = c.args.section.now in
    let i = length l.yielded in
    let t = c.replay_with-t in
    let x = Some c.in-Some.c in
    let more : length (l.yielded ++ (c.in-Some.c ∷ [])) ≡ i + 1 = simp length-append (omega arith) in
    let fit : 8 * c.args.n ≤ length s = omega (arith, c.requires.0) in
    let same = l.invariant.section in
    let step = c.in-Some.ensures.steps in
    let below : i < c.args.n = omega (arith, l.invariant.left, step.1) in
    let read : x ≡ decoded s (8 * i) = rw (same, l.invariant.place) at step.0.0 in
    let made = rw c.decode.ensures at t.ensures.progress in
    let logged = rw c.decode.ensures at t.ensures.shifted in
    record {
      section = ap (λ s. s.now) step.0.1 ∙ same;
      place = rw more ((rw (same, l.invariant.place) at step.0.2) ∙ passed_call s i c.args.n below fit);
      left = omega (arith, more, l.invariant.left, step.1);
      run = rw more (turned _ s i c.args.n l.t l.log x t.result t.new.log below fit l.invariant.run read made logged);
      known = stays_known l.t l.log x t.result t.new.log l.invariant.known made logged;
    }

pub returns : goal.returns
returns c =
    let l = c.loop-c in
    let e = all_taken c.args.section.now (length l.yielded) l.c-iterator.n c.args.n l.invariant.left (omega (arith, c.requires.0))
    (λ more. rw (l.invariant.section, l.invariant.place) at (c.in-None.ensures.steps more).0) in
    l.invariant.run ∙ ap (run_first _ c.args.section.now) e
