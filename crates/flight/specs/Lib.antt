pub mod Flight
pub mod Inside
pub mod Measurement
pub mod Bounds
pub mod Approach
pub use Rattle.acas_base.specs.Encounter
pub use Rattle.acas_base.specs.Ranges
pub use Rattle.acas_num.specs.Clamp
