pub mod Bits
pub mod Page
pub mod Unconsidered
