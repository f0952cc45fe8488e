pub mod Listing
pub mod Forms
pub mod Laws
