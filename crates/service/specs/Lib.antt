pub mod Service
pub mod Tests
pub mod Laws
