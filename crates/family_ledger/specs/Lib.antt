-- Lists of calls on a family box, in reading order: stretches by cards, demand 3, other claims.
pub mod Lists
pub mod Demand3
pub mod Claims
