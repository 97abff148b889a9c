pub mod Saying
pub mod Wanting
