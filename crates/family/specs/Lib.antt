-- A family box, in reading order: what it is, what its calls decline and make of it, their answers; then what inner
-- functions work with, which need not be read, and what holds of every box.
pub mod Box
pub mod Answers
pub mod Seen
