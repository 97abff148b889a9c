pub mod InRow
pub mod Lost
pub mod Steered
