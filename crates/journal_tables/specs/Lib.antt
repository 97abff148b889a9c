pub mod Fields
pub mod Places
pub mod Noted
pub mod Messages
pub mod Kept
