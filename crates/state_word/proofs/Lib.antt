pub mod Words
pub mod Masks
pub mod Counts
