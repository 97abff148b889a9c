pub mod Numbers
pub mod Changes
pub mod Flights
pub mod Rates
pub mod Putting
