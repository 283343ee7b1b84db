pub mod Cleaning
pub mod Unpins
