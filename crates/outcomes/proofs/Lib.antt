pub mod Finding
pub mod Sums
pub mod Seeking
pub mod Keeping
pub mod Far
pub mod Hearing
