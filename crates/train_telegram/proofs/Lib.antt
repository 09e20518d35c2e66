pub mod Refusals
pub mod Showing
