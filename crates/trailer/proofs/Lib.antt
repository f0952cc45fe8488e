pub mod Agree
pub mod StepLaws
