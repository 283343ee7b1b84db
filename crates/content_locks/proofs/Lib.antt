pub mod Locking
pub mod InOut
