pub mod Keeping
pub mod FreeFrames
pub mod FreeLists
