-- The marked figures.
pub mod Figures
