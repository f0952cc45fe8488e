pub mod forms
pub mod laws
