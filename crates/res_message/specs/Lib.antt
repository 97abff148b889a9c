pub mod Words
pub use Rattle.acas_base.specs.Ranges
