pub mod Desks
pub mod Steps
