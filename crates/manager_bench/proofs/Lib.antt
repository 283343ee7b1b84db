pub mod Freeing
pub mod Crossing
