-- The text of calls: a line, the text with reading and exporting, the claims about both.
pub mod Line
pub mod Text
pub mod Trips
