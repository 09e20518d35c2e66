pub mod Answers
pub mod Arguments
pub mod Failures
pub mod Help
pub mod Names
pub mod Version
