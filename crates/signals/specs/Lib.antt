pub mod Answers
pub mod Histories
pub mod Signals
