-- The cards of a family box, in reading order: what they are and what becomes of them; then what inner functions find in
-- one pass over them, which need not be read.
pub mod Cards
pub mod Survey
