pub mod Names
pub mod Catalogue
