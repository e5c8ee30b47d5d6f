pub mod Lengths
pub mod Match
