pub mod Rows
pub mod Mishaps
pub mod Counts
pub mod Misses
pub mod Noted
pub mod Laws
pub mod Text
pub mod Told
