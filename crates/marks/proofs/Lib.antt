pub mod EachMarkedLaws
pub mod FreeingCases
pub mod FreeingLaws
pub mod UnmarkedLaws
