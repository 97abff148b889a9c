pub mod RangeTrack
pub use Rattle.acas_num.specs.Tracks
