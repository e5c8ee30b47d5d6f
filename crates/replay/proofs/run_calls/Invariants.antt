-- The calls handed out so far have been run, and the reader stands after them.
use Rattle.std.proofs.Common.{◌≡◌, ◌+◌, ◌*◌, length}
use Rattle.account.specs.Answers.{account_of}
use Rattle.replay.specs.Replay.{run_first, replayed_of, SaidSound}
use Rattle.replay.proofs.run_calls.Given as goal

abbrev pub invariant-loop-c : goal.invariant-loop-c
invariant-loop-c l = record {
  section : l.c-iterator.iter.section.now ≡ l.section;
  place : l.c-iterator.iter.at ≡ 8 * length l.yielded;
  left : l.c-iterator.n + length l.yielded ≡ l.n;
  run : replayed_of l.t l.log ≡ run_first (account_of l.fn.from.state l.fn.log) l.section (length l.yielded);
  known : SaidSound l.t.sound (account_of l.t.state l.log);
}
