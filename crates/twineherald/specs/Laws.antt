pub mod FewLaws
pub mod LentLaws
pub mod NumbersLaws
pub mod SeveralLaws
