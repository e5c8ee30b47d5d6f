-- The whole account, in reading order: what it is and becomes, what calls decline, Afford, answers, claims.
pub mod Whole
pub mod Calls
pub mod Largest
pub mod Answers
pub mod Claims
