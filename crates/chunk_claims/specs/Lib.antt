pub mod Claims
pub mod Workers
