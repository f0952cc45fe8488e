pub mod MessageCases
pub mod Cases
pub mod AdviceCases
pub mod Laws
