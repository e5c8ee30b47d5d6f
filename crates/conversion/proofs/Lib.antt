pub mod Listing
pub mod Converting
