pub mod Listed
pub mod Accepted
pub mod Filled
pub mod Held
