pub mod Decoded
pub mod Handing
