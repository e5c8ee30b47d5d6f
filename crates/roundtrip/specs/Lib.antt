-- What is written and read back, and what is read and written again.
pub mod Trips
