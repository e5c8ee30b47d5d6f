-- Lists of calls on an account, in reading order: cuts and stretches, the book, demand 3, two examples.
pub mod Lists
pub mod Journal
pub mod Demand3
pub mod Example
