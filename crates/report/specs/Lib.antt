-- The calls that a reader hands out of a file, and the figures of a statement.
pub mod Handed
pub mod Statement
