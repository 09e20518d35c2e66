pub mod Others
pub mod Words
