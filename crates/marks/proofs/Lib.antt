pub mod Carrying
pub mod Heads
pub mod Lent
pub mod Seeing
pub mod Sorting
