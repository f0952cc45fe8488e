pub mod Columns
pub mod Cursor
pub mod Machine
pub mod Next
pub mod Placing
pub mod Sound
