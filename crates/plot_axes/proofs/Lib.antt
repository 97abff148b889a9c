pub mod Shares
pub mod Least
