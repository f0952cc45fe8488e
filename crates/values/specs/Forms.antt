pub mod Codes
pub mod Values
