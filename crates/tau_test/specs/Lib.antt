pub mod RangeTest
pub use Rattle.acas_base.specs.Ranges
pub use Rattle.acas_num.specs.Seconds
