pub mod Ranges
pub mod Built
pub mod Given
