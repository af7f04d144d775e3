pub mod AcceptedLaws
pub mod BodyLaws
pub mod FileLaws
pub mod OperandLaws
pub mod ReadingLaws
