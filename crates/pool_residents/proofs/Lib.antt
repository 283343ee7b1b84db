pub mod Listed
pub mod Looking
pub mod Notes
