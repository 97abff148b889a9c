pub mod Placing
pub mod Owning
pub mod Looking
