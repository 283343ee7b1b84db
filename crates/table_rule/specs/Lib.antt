pub mod Layout
pub mod Blocks
pub mod Shows
pub mod Laid
pub mod LaneCalls
pub mod TakenLanes
pub mod LogCalls
