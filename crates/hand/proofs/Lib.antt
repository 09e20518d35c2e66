pub mod Gathering
pub mod Lent
