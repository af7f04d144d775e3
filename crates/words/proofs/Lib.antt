pub mod AnswerCases
pub mod EvaluateWordsLaws
pub mod QuestionLaws
