pub mod Compiling
pub mod Demand
pub mod Marks
pub mod Unmarked
