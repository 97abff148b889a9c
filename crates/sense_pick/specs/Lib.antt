pub use Rattle.acas_base.specs.Choice
