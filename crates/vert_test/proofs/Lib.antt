pub mod Hitting
