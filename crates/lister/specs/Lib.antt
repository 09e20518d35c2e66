pub mod Hearings
pub mod Lent
pub mod Pieces
