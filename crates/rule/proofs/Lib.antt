pub mod Left
pub mod Passed
pub mod Told
