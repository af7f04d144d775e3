pub mod Parsing
pub mod Theorems
