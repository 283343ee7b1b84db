pub mod Latched
pub mod Inserts
pub mod Flushes
