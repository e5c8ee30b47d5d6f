pub mod OneLine
pub mod Split
pub mod Lines
pub mod Filling
pub mod Putting
pub mod RoundTrips
