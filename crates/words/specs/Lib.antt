pub mod EvaluatingWords
pub mod Theorems
