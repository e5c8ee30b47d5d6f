pub mod Tests
pub mod Sums
pub mod CapLaws
pub mod Tables
pub mod PlanLaws
pub mod Faults
pub mod ChargeLaws
pub mod Verdicts
