pub mod Lasting
pub mod Rowing
