pub mod LogSteps
pub mod Records
pub mod Views
pub mod Inserting
pub mod LogWalks
pub mod Rising
pub mod Listing
