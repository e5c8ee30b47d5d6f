-- A call's refusal is counted.
use Rattle.std.proofs.Common.{rules}
use Rattle.replay.specs.Replay.{replayed_of}
use Rattle.replay.proofs.Steps.{replay_known}
use Rattle.replay.proofs.replay_with.Goals as goal

pub returns-in-Some-clause-progress : goal.returns-in-Some-clause-progress
returns-in-Some-clause-progress c =
    let t = replayed_of c.args.t c.args.log.now in
    let m = c.make_call-done in
    simp c.in-Some.is (replay_known t _ m.result c.from.result m.ensures.answer (search rules) c.args.t.sound)
