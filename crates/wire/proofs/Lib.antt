pub mod Answers
pub mod Metres
pub mod Results
pub mod Round
