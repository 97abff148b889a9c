pub mod Losses
pub mod Laws
pub mod Parts
pub mod Counted
