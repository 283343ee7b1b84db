pub mod RelationPath
pub mod Numbers
pub mod Grammar
pub mod Request
pub mod Spelled
