pub mod Bytes
pub mod Find
pub mod Segments
