pub mod Telling
pub mod Distinct
pub mod Spelled
