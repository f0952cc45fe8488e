pub mod Answer
pub mod Chart
pub mod Table
pub mod Tags
pub mod Forms
pub mod Laws
