-- The library for the box, in reading order: what is returned, calls on accounts, family boxes, files, text, claims.
pub mod Answers
pub mod Calls
pub mod Boxes
pub mod Files
pub mod Texts
pub mod Claims
