pub mod Stable
pub mod Turns
pub mod Filled
pub mod OnlyFilled
pub mod Stepping
