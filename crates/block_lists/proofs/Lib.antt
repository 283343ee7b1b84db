pub mod FirstNumber
pub mod Blocks
pub mod Lines
pub mod Listed
pub mod Ordered
