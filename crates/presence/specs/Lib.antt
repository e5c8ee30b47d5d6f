-- Days and services, in reading order: a day, the log, windows, states; then aids, and claims.
pub mod Day
pub mod Log
pub mod Window
pub mod Service
pub mod Held
pub mod Claims
