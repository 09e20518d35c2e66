pub mod Counting
pub mod Example
pub mod Filling
pub mod Room
pub mod Steps
pub mod Whole
pub mod Held
