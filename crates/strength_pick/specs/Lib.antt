pub mod Extremes
pub use Rattle.acas_base.specs.Strengths
pub use Rattle.acas_base.specs.Choice
pub use Rattle.acas_base.specs.Limits
pub use Rattle.acas_base.specs.Senses
