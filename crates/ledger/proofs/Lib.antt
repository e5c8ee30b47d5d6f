pub mod Match
pub mod Quiet
pub mod Months
pub mod Days
pub mod Book
pub mod Claims
pub mod Example
