pub mod OrderCases
pub mod TypedLaws
