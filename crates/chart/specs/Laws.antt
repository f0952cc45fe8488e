pub mod CursorLaws
pub mod TagsLaws
