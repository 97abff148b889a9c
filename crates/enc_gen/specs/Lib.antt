pub mod Draws
pub mod Making
pub mod Crafts
pub mod Passing
pub mod Misses
pub mod Fates
pub mod Generated
pub mod Near
