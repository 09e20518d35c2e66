pub mod Cutting
pub mod Folds
pub mod Kept
pub mod Phases
pub mod Recording
