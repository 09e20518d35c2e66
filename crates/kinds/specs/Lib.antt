pub mod SecondWords
pub mod Words
