pub mod State
pub mod Tallies
pub mod Invariant
pub mod Kinds
pub mod Steps
pub mod Histories
pub mod Sample
