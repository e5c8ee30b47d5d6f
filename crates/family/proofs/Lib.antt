pub mod Accepts
pub mod Affords
pub mod Openings
pub mod Returns
pub mod Sums
pub mod Ties
