pub mod Answers
pub mod Judged
pub mod Reported
pub mod Forms
pub mod Laws
