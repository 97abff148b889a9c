pub mod Places
pub mod Names
pub mod Marks
pub mod Laws
