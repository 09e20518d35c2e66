pub mod Readings
pub mod States
