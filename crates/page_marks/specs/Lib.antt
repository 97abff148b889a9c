pub mod Places
pub mod Paints
pub mod Within
pub mod Ticks
pub mod Frame
pub mod Words
