pub mod Names
pub mod Attributes
pub mod Escaped
pub mod Xml
pub mod Marks
pub mod Documents
pub mod Fitting
pub mod Drawn
