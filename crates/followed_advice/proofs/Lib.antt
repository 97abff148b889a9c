pub mod Journals
pub mod Flights
pub mod Causes
pub mod Keeping
pub mod Made
pub mod Plays
