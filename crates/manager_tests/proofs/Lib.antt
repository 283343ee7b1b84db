pub mod Crossing
pub mod Fresh
