pub mod Sound
pub mod Positions
mod Counts
pub mod Lines
mod Keys
mod Compactable
mod Bytes
mod Pointers
mod Final
mod Hexes
mod After
mod Dumps
mod Apart
pub mod Sums
pub mod Alike
