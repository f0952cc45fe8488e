pub mod Eights
pub mod Few
