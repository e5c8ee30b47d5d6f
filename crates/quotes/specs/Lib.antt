-- The cost of one kind for Afford: aids, and the claim that they give the cost.
pub mod Quotes
pub mod Claims
