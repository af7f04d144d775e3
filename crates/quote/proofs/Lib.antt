pub mod AnswerLaws
pub mod QuotedLaws
