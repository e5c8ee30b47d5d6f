-- Between trip files and text.
pub mod Errors
pub mod Conversion
pub mod Trips
