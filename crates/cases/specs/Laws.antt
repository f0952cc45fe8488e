pub mod AdviceCasesLaws
pub mod CasesLaws
pub mod MessageCasesLaws
