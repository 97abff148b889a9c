pub mod Showing
pub mod Lengths
pub mod Mapping
pub mod Placing
pub mod Naming
