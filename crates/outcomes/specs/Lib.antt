pub mod Advised
pub mod Events
pub mod Nearest
pub mod Outcomes
pub mod Crews
pub mod Lines
pub mod Totals
