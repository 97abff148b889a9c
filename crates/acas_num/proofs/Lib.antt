pub mod Quotients
pub mod Needs
pub mod Roots
pub mod Folds
