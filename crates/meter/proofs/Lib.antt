pub mod Found
pub mod Held
pub mod Open
pub mod Ran
