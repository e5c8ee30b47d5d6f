-- A trip file, in reading order: its bodies, reading, writing.
pub mod Bodies
pub mod Reading
pub mod Writing
