pub mod Counts
pub mod Left
pub mod Run
