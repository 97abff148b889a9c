pub mod Flown
pub mod Flying
pub mod Response
pub mod Modelled
