pub mod Parts
pub mod Returns
pub mod Kept
pub mod Search
pub mod Affords
pub mod Claimed
