pub mod Counts
pub mod Tallies
pub mod Additions
pub mod Totals
pub mod Sums
pub mod Found
