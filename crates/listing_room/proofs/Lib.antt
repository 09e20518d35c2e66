pub mod Framed
pub mod Held
pub mod Lines
pub mod Room
pub mod Sizes
pub mod Tables
pub mod Telegrams
pub mod Words
