pub mod Lent
pub mod Sets
