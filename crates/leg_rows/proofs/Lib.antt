pub mod Needed
pub mod Through
pub mod Together
pub mod OneFlight
pub mod Begun
