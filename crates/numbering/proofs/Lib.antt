pub mod Agree
pub mod Ways
