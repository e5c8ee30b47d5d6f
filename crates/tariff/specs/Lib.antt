-- Rules that need no account, in reading order: tests, units, caps and tables of them, plans and their faults, charges,
-- claims.
pub mod Tests
pub mod Units
pub mod Caps
pub mod Tables
pub mod Plan
pub mod Faults
pub mod Charges
pub mod Claims
pub mod Refusal
