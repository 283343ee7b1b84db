pub mod Cleanup
pub mod Waking
