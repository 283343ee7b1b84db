pub mod Samples
pub mod Relations
