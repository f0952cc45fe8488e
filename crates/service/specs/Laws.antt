pub mod FitLaws
pub mod ServiceLaws
pub mod UnaLaws
pub mod Unique
