pub mod Checkpoints
pub mod Marked
pub mod Refusals
pub mod Stages
pub mod Writes
