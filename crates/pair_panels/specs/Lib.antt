pub mod Nearest
pub mod Distances
pub mod Panel
pub mod Headline
pub mod Laws
