pub mod Clashing
pub mod Lent
