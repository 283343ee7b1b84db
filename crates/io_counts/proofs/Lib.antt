pub mod Counts
pub mod Additions
pub mod Totals
pub mod Sums
pub mod Found
pub mod Small
