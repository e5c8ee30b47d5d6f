-- All of the account but its log, in reading order: soundness, what calls make of it, Use, refusals; then aids, and
-- claims.
pub mod Sound
pub mod Moves
pub mod Use
pub mod Reasons
pub mod Needs
pub mod Claims
