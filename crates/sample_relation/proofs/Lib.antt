pub mod HeldBlocks
pub mod Joined
pub mod Lengths
pub mod Refusing
