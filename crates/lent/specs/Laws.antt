pub mod KeptLaws
pub mod OverLaws
pub mod PutsLaws
