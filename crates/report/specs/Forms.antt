pub mod Checks
pub mod Few
pub mod Judging
