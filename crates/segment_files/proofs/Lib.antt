pub mod Clashes
pub mod UnknownLanes
