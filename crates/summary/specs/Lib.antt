pub mod Counts
pub mod Rooms
pub mod Summaries
pub mod Tallies
