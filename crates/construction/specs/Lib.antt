pub mod Construction
pub mod Counting
pub mod Pools
pub mod Steps
pub mod Theorems
