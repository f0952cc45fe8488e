pub mod Segs
pub mod Placed
pub mod Rules
pub mod Advices
pub mod Kinds
pub mod Faults
pub mod Forms
