pub mod Flights
pub mod Drawn
pub mod Losses
pub mod Exchanges
pub mod Made
pub mod Variants
pub mod Rows
pub mod Text
