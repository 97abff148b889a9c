pub mod Rounding
pub mod Track
pub mod Along
pub use Rattle.leg_rows.specs.Flights
pub use Rattle.leg_rows.specs.Rows
