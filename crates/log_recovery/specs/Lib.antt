pub mod Records
pub mod Redo
pub mod Steps
pub mod Laws
pub mod Crash
