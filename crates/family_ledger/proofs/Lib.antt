pub mod Laws
pub mod Kept
pub mod Claims
pub mod Others
pub mod OneCard
