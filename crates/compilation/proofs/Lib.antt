pub mod AcceptedCase
pub mod AcceptedLaws
pub mod DemandLaws
pub mod DemandSaysLaws
pub mod MarkLaws
pub mod OutputLaws
pub mod ProgramLaws
pub mod UnmarkedLaws
