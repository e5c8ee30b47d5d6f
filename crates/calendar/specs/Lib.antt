-- The calendar and the table of month starts.
pub mod Calendar
pub mod Table
