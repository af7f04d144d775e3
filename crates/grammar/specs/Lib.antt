pub mod Characters
pub mod Extent
pub mod FormulaNodes
pub mod Grammar
pub mod Language
pub mod Theorems
