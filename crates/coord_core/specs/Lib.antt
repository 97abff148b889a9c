pub use Rattle.acas_base.specs.Next
pub use Rattle.acas_base.specs.Messages
