pub mod Few
pub mod Upto
