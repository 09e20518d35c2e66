pub mod Copies
pub mod Numerals
pub mod ReadBack
pub mod Putting
