pub mod OldLanes
pub mod Crossing
pub mod Returning
