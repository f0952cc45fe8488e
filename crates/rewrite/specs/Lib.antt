pub mod Answers
pub mod Cases
pub mod Plain
pub mod Forms
pub mod Laws
