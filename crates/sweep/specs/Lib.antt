pub mod Numbers
pub mod Totals
pub mod Places
