pub mod Shares
pub mod Slots
pub mod Texts
