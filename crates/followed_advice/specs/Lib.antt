pub mod Following
pub mod Keeping
pub use Rattle.leg_rows.specs.Flights
pub use Rattle.leg_rows.specs.Rows
pub use Rattle.response.specs.Flown
