pub mod Left
pub mod Refusals
pub mod Laws
