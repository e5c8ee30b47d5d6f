pub mod Table
pub mod Finding
