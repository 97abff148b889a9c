pub mod Lines
pub mod Split
pub mod Gathering
pub mod Gathered
pub mod Counting
pub mod Differing
