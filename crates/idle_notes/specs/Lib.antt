pub mod Sources
pub mod Messages
pub mod Rates
pub mod Aircraft
pub mod Noted
pub mod Sentences
pub mod Told
