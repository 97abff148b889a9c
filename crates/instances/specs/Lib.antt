pub mod Having
pub mod Steered
