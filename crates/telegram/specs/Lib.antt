pub mod Sendable
pub mod Tables
pub mod Telegrams
