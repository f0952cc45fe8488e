pub mod Numbers
pub mod Several
pub mod Forms
pub mod Laws
