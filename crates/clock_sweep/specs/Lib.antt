pub mod FreeFrames
pub mod FreeLists
pub mod CensusList
pub mod Keeping
pub mod Choosing
