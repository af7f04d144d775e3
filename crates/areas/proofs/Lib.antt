pub mod AreaLaws
pub mod OutcomeLaws
pub mod TableLaws
pub mod WriterLaws
