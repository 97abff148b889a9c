pub mod Miss
pub use Rattle.square_track.specs.SquareTrack
