pub mod Bits
pub mod Origins
pub mod Rest
pub mod Rows
