pub mod AltTest
pub mod Passing
pub use Rattle.acas_base.specs.Ranges
pub use Rattle.acas_num.specs.Seconds
