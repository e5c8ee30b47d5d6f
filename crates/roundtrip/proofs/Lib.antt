pub mod Made
pub mod Back
pub mod Again
pub mod Keeps
