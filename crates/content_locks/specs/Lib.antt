pub mod Locks
pub mod Io
