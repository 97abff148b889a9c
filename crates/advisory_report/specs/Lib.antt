pub mod Cells
pub mod Composite
pub mod Phrases
pub mod Report
pub mod Stretches
pub mod Words
