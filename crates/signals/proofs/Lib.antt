pub mod Answers
pub mod History
pub mod Missing
pub mod Promises
pub mod Updating
