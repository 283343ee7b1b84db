pub mod Partition
pub mod Hints
