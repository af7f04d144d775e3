pub mod ExamplesLaws
pub mod RowLaws
pub mod TypedLaws
