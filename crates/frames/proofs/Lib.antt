pub mod Back
pub mod Given
pub mod Pouring
pub mod Splitting
