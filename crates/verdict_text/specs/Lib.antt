pub mod Searches
pub mod Causes
pub mod Sentences
