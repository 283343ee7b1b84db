pub mod Files
pub mod Passes
