pub mod ByteLaws
pub mod ExtentLaws
pub mod LexLaws
pub mod PartLaws
pub mod ReleaseLaws
pub mod TrimLaws
pub mod Unique
pub mod ValueLaws
