pub mod WordBitLaws
pub mod WordCases
pub mod WordValueLaws
