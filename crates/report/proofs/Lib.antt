pub mod Handing
pub mod Running
