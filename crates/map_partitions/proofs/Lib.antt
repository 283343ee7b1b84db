pub mod FiniteMaps
pub mod Seen
pub mod Growing
mod Remainders
