pub mod Seconds
pub mod Pair
