pub mod Bounds
pub mod Example
pub mod Paper
pub mod Requests
pub mod Sameness
pub mod Standing
pub mod Walking
pub mod Wrap
