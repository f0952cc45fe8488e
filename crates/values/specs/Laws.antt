pub mod AmountIsLaws
pub mod AmountLaws
pub mod CasesLaws
pub mod CodeLaws
pub mod DigitLaws
pub mod NumberLaws
pub mod TextLaws
pub mod ValuesLaws
