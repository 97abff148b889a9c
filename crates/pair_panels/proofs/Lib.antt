pub mod Far
pub mod Best
pub mod Axis
pub mod Placing
