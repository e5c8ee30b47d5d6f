-- The table of a trip file, and finding a section in it.
pub mod Table
pub mod Find
