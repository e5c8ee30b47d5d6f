pub mod Written
pub mod Read
