pub mod Fields
pub mod Stretches
pub mod Lines
pub mod Pairs
pub mod Kept
pub mod Head
pub mod Summary
pub mod Laws
