-- Text in a buffer, the claim about decimal numbers, and digits read.
pub mod Text
pub mod Claims
pub mod Reading
