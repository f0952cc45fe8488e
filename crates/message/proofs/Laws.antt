pub mod CountLaws
pub mod FaultLaws
pub mod FirstLaws
pub mod LevelLaws
pub mod PlacedLaws
pub mod RowLaws
pub mod ValueLaws
pub mod OneMoreLaws
