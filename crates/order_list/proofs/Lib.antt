pub mod Found
pub mod Listed
pub mod Marked
pub mod Searched
