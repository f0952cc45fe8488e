pub mod Frame
pub mod Steps
pub mod Walks
pub mod Laws
