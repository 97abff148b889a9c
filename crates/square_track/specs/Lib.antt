pub mod SquareTrack
pub mod Straight
pub use Rattle.acas_base.specs.Ranges
pub use Rattle.acas_num.specs.Clamp
