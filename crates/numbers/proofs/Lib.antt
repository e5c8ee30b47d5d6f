pub mod Laid
pub mod Back
