pub mod AltTrack
pub use Rattle.acas_num.specs.Clamp
pub use Rattle.acas_num.specs.Tracks
