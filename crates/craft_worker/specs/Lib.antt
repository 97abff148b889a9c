pub mod Workers
pub use Rattle.air_turn.specs.Seats
