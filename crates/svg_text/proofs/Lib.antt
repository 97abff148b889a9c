pub mod Adding
pub mod Values
pub mod WellFormed
