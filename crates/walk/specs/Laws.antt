pub mod FrameLaws
pub mod JudgesLaws
pub mod PlaceLaws
pub mod WalksLaws
