pub mod CaseLaws
pub mod DigitLaws
pub mod PutLaws
