pub mod Finding
pub mod Unchosen
