pub mod Totals
pub mod Rule
pub mod Told
pub mod Seats
pub mod Turns
pub use Rattle.air_journal.specs.Calls
pub use Rattle.air_journal.specs.States
