pub mod Classes
pub mod SegmentList
pub mod Left
pub mod Sync
pub mod Ends
pub mod Forms
pub mod Laws
