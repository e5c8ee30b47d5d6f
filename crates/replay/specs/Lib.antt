-- The calls of a file, run one after the other.
pub mod Replay
