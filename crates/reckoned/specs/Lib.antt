pub mod Example
pub mod Reckoned
pub mod Requests
pub mod Standing
