pub mod Distances
pub mod Steps
pub mod Verdicts
