pub mod Printed
pub mod laws
