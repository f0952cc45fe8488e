pub mod Tallied
pub mod Places
pub mod Forms
pub mod Laws
