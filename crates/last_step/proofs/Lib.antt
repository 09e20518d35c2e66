pub mod Lent
pub mod Taken
