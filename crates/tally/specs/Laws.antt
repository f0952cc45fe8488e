pub mod FewLaws
pub mod PlacesLaws
pub mod TalliedLaws
