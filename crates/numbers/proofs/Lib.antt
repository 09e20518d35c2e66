pub mod Permitted
pub mod Round
pub mod Search
