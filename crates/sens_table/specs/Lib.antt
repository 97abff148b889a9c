pub mod Levels
pub mod Above
pub mod Run
pub use Rattle.acas_base.specs.Ranges
