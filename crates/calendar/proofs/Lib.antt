pub mod Table
pub mod Months
pub mod Laws
pub mod Search
