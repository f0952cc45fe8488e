pub mod CasesLaws
pub mod DecimalLaws
pub mod LinesLaws
