pub mod Counting
pub mod Working
pub mod AllWorkers
pub mod Completing
