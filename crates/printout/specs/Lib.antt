-- The text of a statement.
pub mod Printout
