pub mod Spans
pub mod Placed
pub mod Halves
pub mod Covering
pub mod Flying
