pub mod Adding
pub mod Growth
pub mod Bounds
pub mod Soundness
pub mod Billing
pub mod Verdicts
pub mod Claimed
pub mod Caps
