pub mod Left
pub mod Outputs
pub mod Room
