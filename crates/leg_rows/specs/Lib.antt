pub mod Rows
pub mod Flights
pub use Rattle.flight.specs.Bounds
pub use Rattle.flight.specs.Flight
