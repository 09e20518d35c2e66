pub mod Codes
pub mod Origins
pub mod Refusals
