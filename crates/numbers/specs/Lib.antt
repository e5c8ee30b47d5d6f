-- An account as numbers, and the claims about that.
pub mod Numbers
pub mod Claims
