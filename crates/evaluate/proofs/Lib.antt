pub mod AskedLaws
pub mod EvaluateLaws
pub mod FillLaws
