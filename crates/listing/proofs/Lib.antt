pub mod Totals
pub mod Segments
