pub mod LastSteps
pub mod Lent
