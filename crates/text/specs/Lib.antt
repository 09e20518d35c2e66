pub mod Decimals
pub mod Hexadecimals
pub mod Words
pub mod Putting
