pub mod Lists
pub mod Lent
pub mod Over
pub mod Forms
pub mod Laws
